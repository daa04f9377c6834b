-- What pumps do to a sound site (document 02, [10]): each at its turn, the first n of a list, and all of them. The site stays sound where no inlet passes the top, no
-- velocity changes, and what was added and taken is what the sum of heights gained.
use Prim.Native.Nat.{ℕ, zero, suc, ◌+◌, ◌-◌, ◌*◌, ◌≤◌, ◌<◌}
use Rattle.std.specs.Prelude.{◌≡◌, Bool, true, false, cond, List, ℤ, negsuc, nat_abs, ◌+ℤ◌, ◌-ℤ◌, length, leb, ltb}
use Rattle.std.proofs.Math.Path.{refl}
use Rattle.std.proofs.Common.{sym, ap, ◌∙◌, le_refl, leb→le, ltb→lt}
use Rattle.std.proofs.Math.Nat.{le_trans}
use native.Mathlib.Omega.{arith}
use Rattle.std.proofs.Math.IntN.{pos, +ℤ_assoc, +ℤ-neg_ℤ_cancel, -ℤ-+ℤ_cancel}
use Rattle.std.specs.Int.Signed.{le_z, lt_z}
use Rattle.std.proofs.Math.ListN.{length-set}
use Rattle.std.proofs.Math.Dec.{T, le→leb, nleb→lt}
use Rattle.std.proofs.Math.Arith.{le→nltb}
use Rattle.rules.specs.declared.Card.{Card}
use Rattle.rules.specs.Site.{cells, read_state, sum_of_heights}
use Rattle.rules.specs.Step.{backward, limit_kept}
use Rattle.rules.specs.Pumps.{Pump, pump_at, pump_count, pump_fits, pumps_fit, adds, takes, height_after, height_at, after_pump, after_pumps, height_found, adds_up_to, takes_up_to, pumped, added_by, taken_by, turn_fits, inlets_fit}
use Rattle.laws.specs.Tests.{false_of, to_T, and_both, three_of}
use Rattle.laws.specs.Numbers.{sums}
use Rattle.laws.specs.Grids.{all_at_lem}
use Rattle.laws.specs.Outward.{forward_size, backward_size}
use Rattle.laws.specs.Facts.{Sound, sound_facts}
use Rattle.laws.specs.Stored.{SameFaces, faces_stored, faces_then, limit_same, sound_stored, sum_stored}

-- ---- a balance: the sum is Z now, and so much was added and taken since it was S

abbrev pub Balanced : (Z S : ℤ) (added taken : ℕ) → Type 0
Balanced Z S a k = Z +ℤ pos k ≡ S +ℤ pos a

-- one that goes on
pub balanced_on : (X Y S : ℤ) (a a' k k' : ℕ) → Balanced X Y a' k' → Balanced Y S a k → Balanced X S (a + a') (k + k')
balanced_on X Y S a a' k k' p q =
    first X (pos k) (pos k') ∙ ap (λ (z : ℤ). z +ℤ pos k) p ∙ second Y (pos a') (pos k) ∙ ap (λ (z : ℤ). z +ℤ pos a') q ∙ +ℤ_assoc S (pos a) (pos a')
  where
    first : (X k k' : ℤ) → X +ℤ (k +ℤ k') ≡ X +ℤ k' +ℤ k
    first X k k' = simp sums

    second : (Y a k : ℤ) → Y +ℤ a +ℤ k ≡ Y +ℤ k +ℤ a
    second Y a k = simp sums

-- ---- one pump

-- what the third check says of it
pub record PumpFacts (c : Card) (p : Pump) : Type 0 where
  pub whole : p.cell ≡ pos (nat_abs p.cell)
  pub place : nat_abs p.cell < cells c
  pub amount : nat_abs p.amount ≤ 1000000

pub pump_facts : (c : Card) (p : Pump) → T (pump_fits c p) → PumpFacts c p
unfolding pump_fits
pump_facts c p t =
    let f = three_of (le_z (pos 0) p.cell) (lt_z p.cell (pos (cells c))) (leb (nat_abs p.amount) 1000000) t in
    let w = at p.cell f.one f.two in
    record { whole = w.0; place = w.1; amount = leb→le (nat_abs p.amount) 1000000 f.three }
  where
    at : (z : ℤ) → T (le_z (pos 0) z) → T (lt_z z (pos (cells c))) → (z ≡ pos (nat_abs z)) × (nat_abs z < cells c)
    at (pos n) l h = (refl, ltb→lt n (cells c) h)
    at (negsuc n) l h = absurd l

module _ (p : Pump) where
  -- it takes no more than is there, and no more than its amount
  least : (a b : ℕ) → (cond (leb a b) a b ≤ a) × (cond (leb a b) a b ≤ b)
  least a b = go (leb a b) refl
    where
      go : (t : Bool) → leb a b ≡ t → (cond t a b ≤ a) × (cond t a b ≤ b)
      go true e = (le_refl a, leb→le a b (to_T e))
      go false e = (let h = nleb→lt a b (rw e tt) in omega arith, le_refl b)

  pub takes_there : (h : ℤ) → takes p h ≤ nat_abs h
  unfolding takes
  takes_there h = (least (backward p.amount) (nat_abs h)).1

  pub takes_amount : (h : ℤ) → takes p h ≤ nat_abs p.amount
  unfolding takes
  takes_amount h = le_trans (least (backward p.amount) (nat_abs h)).0 (backward_size p.amount)

  pub adds_amount : adds p ≤ nat_abs p.amount
  unfolding adds
  adds_amount = forward_size p.amount

  -- so that no height falls below 0
  pub stays_low : (h : ℤ) → T (le_z (pos 0) h) → T (le_z (pos 0) (height_after p h))
  unfolding height_after
  stays_low (pos n) t = less (n + adds p) (takes p (pos n)) (let l = takes_there (pos n) in omega arith)
    where
      less : (a b : ℕ) → b ≤ a → T (le_z (pos 0) (pos a -ℤ pos b))
      less a zero l = le→leb 0 (a + 0) (omega arith)
      less a (suc b) l = rw (false_of (ltb a (suc b)) (le→nltb a (suc b) l)) (le→leb 0 (a - suc b) (omega arith))
  stays_low (negsuc n) t = absurd t

  pub sound_after : (c : Card) (g s : List ℤ) → T (pump_fits c p) → T (le_z (height_after p (height_at p s)) (pos 50000000)) → Sound c g s → Sound c g (after_pump p s)
  unfolding after_pump
  sound_after c g s fit top sound =
      let h = height_at p s in
      let f = pump_facts c p fit in
      let low = (sound_facts c g s sound).height_low (nat_abs p.cell) f.place in
      sound_stored c g s (nat_abs p.cell) (height_after p h) f.place (and_both (le_z (pos 0) (height_after p h)) (le_z (height_after p h) (pos 50000000)) (stays_low h low) top) sound

  pub faces_after : (c : Card) (s : List ℤ) → T (pump_fits c p) → SameFaces c s (after_pump p s)
  unfolding after_pump
  faces_after c s fit = faces_stored c s (nat_abs p.cell) (height_after p (height_at p s)) (pump_facts c p fit).place

  pub length-after : (s : List ℤ) → length (after_pump p s) ≡ length s
  unfolding after_pump
  length-after s = length-set s (nat_abs p.cell) (height_after p (height_at p s))

  -- end sum plus what was taken is start sum plus what was added: Z and S are the sums, h the height before
  weighed : (Z S h a t : ℤ) → Z +ℤ h ≡ S +ℤ (h +ℤ a -ℤ t) → Z +ℤ t ≡ S +ℤ a
  weighed Z S h a t e =
      sym (+ℤ-neg_ℤ_cancel (Z +ℤ t) h)
      ∙ ap (λ (x : ℤ). x -ℤ h) (along Z t h ∙ ap (λ (x : ℤ). x +ℤ t) e ∙ back S h a t)
      ∙ +ℤ-neg_ℤ_cancel (S +ℤ a) h
    where
      along : (x y z : ℤ) → x +ℤ y +ℤ z ≡ x +ℤ z +ℤ y
      along x y z = simp sums

      back : (S h a t : ℤ) → S +ℤ (h +ℤ a -ℤ t) +ℤ t ≡ S +ℤ a +ℤ h
      back S h a t = +ℤ_assoc S (h +ℤ a -ℤ t) t ∙ ap (λ (x : ℤ). S +ℤ x) (-ℤ-+ℤ_cancel (h +ℤ a) t) ∙ regroup S h a
        where
          regroup : (S h a : ℤ) → S +ℤ (h +ℤ a) ≡ S +ℤ a +ℤ h
          regroup S h a = simp sums

  pub sum-after : (c : Card) (s : List ℤ) → T (pump_fits c p) → cells c ≤ length s
      → Balanced (sum_of_heights c (after_pump p s)) (sum_of_heights c s) (adds p) (takes p (height_at p s))
  unfolding after_pump height_after
  sum-after c s fit long =
      let h = height_at p s in
      let f = pump_facts c p fit in
      weighed (sum_of_heights c (after_pump p s)) (sum_of_heights c s) h (pos (adds p)) (pos (takes p h))
      (sum_stored c s (nat_abs p.cell) (height_after p h) f.place (omega (arith, f.place, long)))

-- ---- the first n pumps of a list, each of which fits

module _ (c : Card) (ps : List ℤ) where
  abbrev FitUpTo : ℕ → Type 0
  FitUpTo n = (k : ℕ) → k < n → T (pump_fits c (pump_at ps k))

  pub length_afters : (n : ℕ) (s : List ℤ) → length (after_pumps ps n s) ≡ length s
  unfolding after_pumps
  length_afters zero s = refl
  length_afters (suc n) s = length-after (pump_at ps n) (after_pumps ps n s) ∙ length_afters n s

  pub sound_afters : (n : ℕ) (g s : List ℤ) → FitUpTo n → ((k : ℕ) → k < n → T (turn_fits ps s k)) → Sound c g s → Sound c g (after_pumps ps n s)
  unfolding after_pumps turn_fits
  sound_afters zero g s fit top sound = sound
  sound_afters (suc n) g s fit top sound =
      sound_after (pump_at ps n) c g (after_pumps ps n s) (fit n (le_refl (suc n))) (top n (le_refl (suc n)))
      (sound_afters n g s (λ k l. fit k (omega arith)) (λ k l. top k (omega arith)) sound)

  pub faces_afters : (n : ℕ) (s : List ℤ) → FitUpTo n → SameFaces c s (after_pumps ps n s)
  unfolding after_pumps
  faces_afters zero s fit = record { word = λ m. refl }
  faces_afters (suc n) s fit = faces_then (faces_afters n s (λ k l. fit k (omega arith))) (faces_after (pump_at ps n) c (after_pumps ps n s) (fit n (le_refl (suc n))))

  pub sum_afters : (n : ℕ) (s : List ℤ) → FitUpTo n → cells c ≤ length s
      → Balanced (sum_of_heights c (after_pumps ps n s)) (sum_of_heights c s) (adds_up_to ps n) (takes_up_to ps s n)
  unfolding after_pumps takes_up_to adds_up_to
  sum_afters zero s fit long = refl
  sum_afters (suc n) s fit long =
      let p = pump_at ps n in
      let t = after_pumps ps n s in
      let last = sum-after p c t (fit n (le_refl (suc n))) (omega (arith, long, length_afters n s)) in
      balanced_on (sum_of_heights c (after_pump p t)) (sum_of_heights c t) (sum_of_heights c s) (adds_up_to ps n) (adds p) (takes_up_to ps s n) (takes p (height_at p t))
      last (sum_afters n s (λ k l. fit k (omega arith)) long)

  -- together they add and take at most 1,000,000 each
  pub adds_most : (n : ℕ) → FitUpTo n → adds_up_to ps n ≤ n * 1000000
  unfolding adds_up_to
  adds_most zero fit = omega arith
  adds_most (suc n) fit =
      omega (arith, adds_most n (λ k l. fit k (omega arith)), adds_amount (pump_at ps n), (pump_facts c (pump_at ps n) (fit n (le_refl (suc n)))).amount)

  pub takes_most : (s : List ℤ) (n : ℕ) → FitUpTo n → takes_up_to ps s n ≤ n * 1000000
  unfolding takes_up_to
  takes_most s zero fit = omega arith
  takes_most s (suc n) fit =
      omega (arith, takes_most s n (λ k l. fit k (omega arith)), takes_amount (pump_at ps n) (height_found ps s n), (pump_facts c (pump_at ps n) (fit n (le_refl (suc n)))).amount)

-- ---- all of them, where the third check passed

module _ (c : Card) (ps : List ℤ) (fit : pumps_fit c ps ≡ true) where
  pub each_fits : (k : ℕ) → k < pump_count ps → T (pump_fits c (pump_at ps k))
  unfolding pumps_fit
  each_fits = all_at_lem (pump_count ps) (λ k. pump_fits c (pump_at ps k)) (to_T fit)

  pub sound_pumped : (g s : List ℤ) → inlets_fit ps s ≡ true → Sound c g s → Sound c g (pumped ps s)
  unfolding pumped inlets_fit
  sound_pumped g s top sound = sound_afters c ps (pump_count ps) g s each_fits (all_at_lem (pump_count ps) (turn_fits ps s) (to_T top)) sound

  pub limit_pumped : (s : List ℤ) → limit_kept c (read_state c (pumped ps s)) ≡ limit_kept c (read_state c s)
  unfolding pumped
  limit_pumped s = limit_same (faces_afters c ps (pump_count ps) s each_fits)

  pub sum-pumped : (s : List ℤ) → cells c ≤ length s → Balanced (sum_of_heights c (pumped ps s)) (sum_of_heights c s) (added_by ps) (taken_by ps s)
  unfolding pumped taken_by added_by
  sum-pumped s long = sum_afters c ps (pump_count ps) s each_fits long
