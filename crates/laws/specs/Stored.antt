-- A state in which the height of one cell was stored: its velocities and what is read of them are as they were, it is sound if the height is in range, and its sum
-- of heights changed by as much as the height did.
use Prim.Native.Nat.{ℕ, zero, suc, ◌+◌, ◌*◌, ◌<◌}
use Rattle.std.specs.Prelude.{◌≡◌, refl, Bool, true, false, cond, ◌⊎◌, List, ◌++◌, ℤ, pos, ◌+ℤ◌, length, get_or, set, eqb}
use Rattle.std.proofs.Common.{sym, ap, ap₂, ◌∙◌, inl, inr, add-zero, add-suc, zero-mul, eq-or-lt_of_le, le_of_suc-le-suc, lt_irrefl, not-suc-le-zero, arith, length-set, get_or-set_same, get_or-set_other, eqb→eq}
use Rattle.std.proofs.Math.Path.{subst}
use Rattle.std.proofs.Math.IntN.{+ℤ_idr, +ℤ_assoc}
use Rattle.std.proofs.Math.Dec.{T, eqb_refl}
use Rattle.rules.specs.declared.Card.{Card}
use Rattle.rules.specs.Grid.{Field, grid, sum, sum_at}
use Rattle.rules.specs.Site.{Water, cells, read_ground, read_state, write_state, sum_of_heights, height_fits, grounds_fit, heights_fit, velocities_fit, walls_still, values_fit, lengths_fit}
use Rattle.rules.specs.Step.{within_limit, limit_kept}
use Rattle.rules.proofs.Sums.{sum_same}
use Rattle.laws.specs.Tests.{true_of, to_T, four_of, of_four}
use Rattle.laws.specs.Numbers.{sums}
use Rattle.laws.specs.Grids.{all_at_lem, all_intro}
use Rattle.laws.specs.States.{faces_back}
use Rattle.laws.specs.Values.{depths_flat}
use Rattle.laws.specs.Facts.{Sound, length_facts}

-- ---- a word of a list in which one was stored

pub stored : (s : List ℤ) (k m : ℕ) (v : ℤ) → k < length s → get_or (set s k v) m (pos 0) ≡ cond (eqb m k) v (get_or s m (pos 0))
stored s k m v h = go (eqb m k) refl
  where
    go : (b : Bool) → eqb m k ≡ b → get_or (set s k v) m (pos 0) ≡ cond b v (get_or s m (pos 0))
    go true e = ap (λ (n : ℕ). get_or (set s k v) n (pos 0)) (eqb→eq m k (to_T e)) ∙ get_or-set_same s k v (pos 0) h
    go false e = get_or-set_other s k m v (pos 0) (λ q. subst T e (subst (λ (n : ℕ). T (eqb n k)) (sym q) (eqb_refl k)))

-- ---- the velocities, and what reads no more than these

-- of two states that have the same words behind their heights
pub record SameFaces (c : Card) (s t : List ℤ) : Type 0 where
  pub word : (m : ℕ) → get_or t (cells c + m) (pos 0) ≡ get_or s (cells c + m) (pos 0)

pub faces_stored : (c : Card) (s : List ℤ) (k : ℕ) (v : ℤ) → k < cells c → SameFaces c s (set s k v)
faces_stored c s k v h = record { word = λ m. get_or-set_other s k (cells c + m) v (pos 0) (λ q. lt_irrefl k (omega (arith, h, q))) }

pub faces_then : {c : Card} {s t u : List ℤ} → SameFaces c s t → SameFaces c t u → SameFaces c s u
faces_then p q = record { word = λ m. q.word m ∙ p.word m }

module _ {c : Card} {s t : List ℤ} (same : SameFaces c s t) where
  pub east_same : (read_state c t).east ≡ (read_state c s).east
  unfolding read_state
  east_same = λ x i j. same.word (j * suc c.columns + i) x

  pub north_same : (read_state c t).north ≡ (read_state c s).north
  unfolding read_state
  north_same = λ x i j. same.word (c.rows * suc c.columns + (j * c.columns + i)) x

  -- the heights of s, and the velocities on their way from t to s
  pub limit_same : limit_kept c (read_state c t) ≡ limit_kept c (read_state c s)
  unfolding limit_kept within_limit
  limit_same = λ x. limit_kept c (record { height = (read_state c s).height; east = east_same x; north = north_same x })

  speeds_same : velocities_fit c (read_state c t) ≡ velocities_fit c (read_state c s)
  unfolding velocities_fit
  speeds_same = λ x. velocities_fit c (record { height = (read_state c s).height; east = east_same x; north = north_same x })

  walls_same : walls_still c (read_state c t) ≡ walls_still c (read_state c s)
  unfolding walls_still
  walls_same = λ x. walls_still c (record { height = (read_state c s).height; east = east_same x; north = north_same x })

-- two states written with the same velocities
pub faces_written : (c : Card) (w v : Water) → v.east ≡ w.east → v.north ≡ w.north → SameFaces c (write_state c w) (write_state c v)
faces_written c w v e n = record {
  word = λ m.
      faces_back c v m
      ∙ ap₂ (λ (e n : Field). get_or (grid (suc c.columns) c.rows e ++ grid c.columns (suc c.rows) n) m (pos 0)) e n
      ∙ sym (faces_back c w m);
}

-- ---- a sound site stays sound

module _ (c : Card) (g s : List ℤ) (k : ℕ) (v : ℤ) (h : k < cells c) (fits : T (height_fits v)) (sound : Sound c g s) where
  long : k < length s
  long = let l = length_facts c g s sound.lengths in omega (arith, h, l.heights)

  lengths_stored : lengths_fit c g (set s k v) ≡ true
  unfolding lengths_fit
  lengths_stored = rw (length-set s k v) sound.lengths

  heights_stored : T (heights_fit c (read_state c s)) → T (heights_fit c (read_state c (set s k v)))
  heights_stored t =
      subst T (sym (depths_flat c (set s k v)))
      (all_intro (cells c) (λ m. height_fits (get_or (set s k v) m (pos 0)))
      (λ m l. subst (λ (z : ℤ). T (height_fits z)) (sym (stored s k m v long)) (pick m l (eqb m k))))
    where
      pick : (m : ℕ) → m < cells c → (b : Bool) → T (height_fits (cond b v (get_or s m (pos 0))))
      pick m l true = fits
      pick m l false = all_at_lem (cells c) (λ m. height_fits (get_or s m (pos 0))) (subst T (depths_flat c s) t) m l

  pub sound_stored : Sound c g (set s k v)
  unfolding values_fit
  sound_stored =
      let w = read_state c s in
      let t = read_state c (set s k v) in
      let f = four_of (grounds_fit c (read_ground c g)) (heights_fit c w) (velocities_fit c w) (walls_still c w) (to_T sound.values) in
      let same = faces_stored c s k v h in
      record {
        card = sound.card;
        lengths = lengths_stored;
        values =
            true_of _ (of_four (grounds_fit c (read_ground c g)) (heights_fit c t) (velocities_fit c t) (walls_still c t) (record {
              one = f.one;
              two = heights_stored f.two;
              three = subst T (sym (speeds_same same)) f.three;
              four = subst T (sym (walls_same same)) f.four;
            }));
      }

-- ---- the sum of heights

sum-add : (a b : ℕ) (f : ℕ → ℤ) → sum (a + b) f ≡ sum a f +ℤ sum b (λ k. f (a + k))
unfolding sum
sum-add a zero f = rw add-zero (sym (+ℤ_idr (sum a f)))
sum-add a (suc b) f = rw add-suc (ap (λ (x : ℤ). x +ℤ f (a + b)) (sum-add a b f) ∙ +ℤ_assoc (sum a f) (sum b (λ k. f (a + k))) (f (a + b)))

sum-flat : (m n : ℕ) (f : ℕ → ℤ) → sum_at m n (λ i j. f (j * m + i)) ≡ sum (n * m) f
unfolding sum_at sum
sum-flat m zero f = rw zero-mul
sum-flat m (suc n) f =
    let rows : n * m + m ≡ suc n * m = omega arith in
    ap (λ (x : ℤ). x +ℤ sum m (λ i. f (n * m + i))) (sum-flat m n f) ∙ sym (sum-add (n * m) m f) ∙ ap (λ (k : ℕ). sum k f) rows

sum_at_lem : (c : Card) (s : List ℤ) → sum_of_heights c s ≡ sum (cells c) (λ k. get_or s k (pos 0))
unfolding sum_of_heights read_state
sum_at_lem c s = sum-flat c.columns c.rows (λ k. get_or s k (pos 0))

swapped : (a x o : ℤ) → a +ℤ x +ℤ o ≡ a +ℤ o +ℤ x
swapped a x o = simp sums

stored_sum : (s : List ℤ) (k : ℕ) (v : ℤ) → k < length s → (n : ℕ) → k < n
    → sum n (λ m. get_or (set s k v) m (pos 0)) +ℤ get_or s k (pos 0) ≡ sum n (λ m. get_or s m (pos 0)) +ℤ v
unfolding sum
stored_sum s k v l zero h = absurd (not-suc-le-zero h)
stored_sum s k v l (suc n) h = pick (stored_sum s k v l n) (eq-or-lt_of_le (le_of_suc-le-suc h))
  where
    new : ℕ → ℤ
    new m = get_or (set s k v) m (pos 0)

    old : ℕ → ℤ
    old m = get_or s m (pos 0)

    pick : (k < n → sum n new +ℤ old k ≡ sum n old +ℤ v) → (k ≡ n) ⊎ (k < n) → sum n new +ℤ new n +ℤ old k ≡ sum n old +ℤ old n +ℤ v
    pick ih (inl e) =
        let below : sum n new ≡ sum n old = sum_same n new old (λ m b. get_or-set_other s k m v (pos 0) (λ q. lt_irrefl m (omega (arith, b, q, e)))) in
        let here : new n ≡ v = subst (λ (m : ℕ). new m ≡ v) e (get_or-set_same s k v (pos 0) l) in
        let there : old k ≡ old n = ap old e in
        rw (below, here, there) (swapped (sum n old) v (old n))
    pick ih (inr b) =
        let rest : new n ≡ old n = get_or-set_other s k n v (pos 0) (λ q. lt_irrefl k (omega (arith, b, q))) in
        swapped (sum n new) (new n) (old k)
        ∙ ap₂ ◌+ℤ◌ (ih b) rest
        ∙ swapped (sum n old) v (old n)

pub sum_stored : (c : Card) (s : List ℤ) (k : ℕ) (v : ℤ) → k < cells c → k < length s → sum_of_heights c (set s k v) +ℤ get_or s k (pos 0) ≡ sum_of_heights c s +ℤ v
sum_stored c s k v h l = rw (sum_at_lem c (set s k v), sum_at_lem c s) (stored_sum s k v l (cells c) h)
