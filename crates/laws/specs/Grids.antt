-- Laws of Grid: a list that is tabulated, read; a test at every place; the greatest.
use Rattle.std.specs.Prelude.{ℕ, zero, suc, ◌+◌, ◌*◌, ◌-◌, ◌/◌, ◌%◌, ◌≤◌, ◌<◌, ◌≡◌, refl, Bool, true, false, cond, not, ◌&&◌, List, [], ◌∷◌, ◌++◌, ◌⊎◌, ℤ, pos, negsuc, length, get_or}
use Rattle.std.proofs.Common.{suc-le-suc, zero-le, sym, ap, ap₂, ◌∙◌, subst, zero-add, suc-add, div-add-mod', le_antisymm, not-suc-le-zero, le_of_suc-le-suc, eq-or-lt_of_le, mod-lt, div-lt_iff_lt-mul, le_refl, mul-zero, arith, inl, inr, add-one}
use Rattle.std.specs.Int.Signed.{le_z}
use Rattle.std.proofs.Math.Arith.{digits_div, digits_mod, digits_lt}
use lib.Dec.{T, T_not, not_T}
use Rattle.rules.specs.Grid.{Field, tabulate, grid, all, all_at, greatest, max_z, min_z}
use Rattle.laws.specs.Tests.{both_ways, false_of, and_both, and_left, and_right}
use Rattle.laws.specs.Numbers.{le_z_trans, le_z_refl, le_z_antisymm}

-- ---- tabulate

pub length-tabulate : (n : ℕ) (f : ℕ → ℤ) → length (tabulate n f) ≡ n
unfolding tabulate
length-tabulate zero f = refl
length-tabulate (suc n) f = ap suc (length-tabulate n (λ k. f (suc k)))

get_d_tabulate : (n : ℕ) (f : ℕ → ℤ) (k : ℕ) (d : ℤ) → k < n → get_or (tabulate n f) k d ≡ f k
unfolding tabulate
get_d_tabulate zero f k d h = absurd (not-suc-le-zero h)
get_d_tabulate (suc n) f zero d h = refl
get_d_tabulate (suc n) f (suc k) d h = get_d_tabulate n (λ i. f (suc i)) k d (le_of_suc-le-suc h)

pub tabulate_same : (n : ℕ) (f g : ℕ → ℤ) → ((k : ℕ) → k < n → f k ≡ g k) → tabulate n f ≡ tabulate n g
unfolding tabulate
tabulate_same zero f g h = refl
tabulate_same (suc n) f g h =
    λ i. h zero (suc-le-suc zero-le) i ∷ tabulate_same n (λ k. f (suc k)) (λ k. g (suc k)) (λ k b. h (suc k) (suc-le-suc b)) i

pub tabulate-add : (a b : ℕ) (f : ℕ → ℤ) → tabulate (a + b) f ≡ tabulate a f ++ tabulate b (λ k. f (a + k))
unfolding tabulate
tabulate-add zero b f = rw (zero-add b) (tabulate_same b f (λ k. f (0 + k)) (λ k h. rw (zero-add k)))
tabulate-add (suc a) b f =
    rw (suc-add a b)
    (ap (λ (r : List ℤ). f 0 ∷ r)
    (tabulate-add a b (λ k. f (suc k)) ∙ ap (λ (r : List ℤ). tabulate a (λ k. f (suc k)) ++ r) (tabulate_same b _ _ (λ k h. rw (suc-add a k)))))

pub tabulate_read : (xs : List ℤ) (d : ℤ) → tabulate (length xs) (λ k. get_or xs k d) ≡ xs
unfolding tabulate
tabulate_read [] d = refl
tabulate_read (x ∷ xs) d = ap (λ (r : List ℤ). x ∷ r) (tabulate_read xs d)

-- ---- grid

-- a field that is read off a flat function
pub grid-flat : (m n : ℕ) (f : ℕ → ℤ) → grid m n (λ i j. f (j * m + i)) ≡ tabulate (n * m) f
unfolding grid
grid-flat m n f = tabulate_same (n * m) _ _ (λ k h. ap f (div-add-mod' k m))

pub pos_columns : (m n k : ℕ) → k < n * m → 0 < m
pos_columns zero n k h = absurd (not-suc-le-zero (rw mul-zero at h))
pos_columns (suc m) n k h = suc-le-suc zero-le

pub length-grid : (m n : ℕ) (f : Field) → length (grid m n f) ≡ n * m
unfolding grid
length-grid m n f = length-tabulate (n * m) (λ k. f (k % m) (k / m))

pub get_d_grid : (m n : ℕ) (f : Field) (i j : ℕ) (d : ℤ) → i < m → j < n → get_or (grid m n f) (j * m + i) d ≡ f i j
unfolding grid
get_d_grid m n f i j d hi hj =
    get_d_tabulate (n * m) (λ k. f (k % m) (k / m)) (j * m + i) d (digits_lt hj hi)
    ∙ ap (λ (x : ℕ). f x ((j * m + i) / m)) (digits_mod j hi)
    ∙ ap (λ (x : ℕ). f i x) (digits_div j hi)

pub grid_same : (m n : ℕ) (f g : Field) → ((i j : ℕ) → i < m → j < n → f i j ≡ g i j) → grid m n f ≡ grid m n g
unfolding grid
grid_same m n f g h =
    tabulate_same (n * m) (λ k. f (k % m) (k / m)) (λ k. g (k % m) (k / m))
    (λ k b. h (k % m) (k / m) (mod-lt k (pos_columns m n k b)) ((div-lt_iff_lt-mul (pos_columns m n k b)).1 b))

-- ---- all

pub all_at_lem : (n : ℕ) (p : ℕ → Bool) → T (all n p) → (i : ℕ) → i < n → T (p i)
unfolding all
all_at_lem zero p t i h = absurd (not-suc-le-zero h)
all_at_lem (suc n) p t i h = pick (all_at_lem n p (and_left (all n p) (p n) t) i) (eq-or-lt_of_le (le_of_suc-le-suc h))
  where
    pick : (i < n → T (p i)) → (i ≡ n) ⊎ (i < n) → T (p i)
    pick ih (inl e) = rw e (and_right (all n p) (p n) t)
    pick ih (inr l) = ih l

pub all_intro : (n : ℕ) (p : ℕ → Bool) → ((i : ℕ) → i < n → T (p i)) → T (all n p)
unfolding all
all_intro zero p h = tt
all_intro (suc n) p h = and_both (all n p) (p n) (all_intro n p (λ i b. h i (omega arith))) (h n (le_refl (suc n)))

pub all_at_at : (m n : ℕ) (p : ℕ → ℕ → Bool) → T (all_at m n p) → (i j : ℕ) → i < m → j < n → T (p i j)
unfolding all_at
all_at_at m n p t i j hi hj = all_at_lem m (λ i. p i j) (all_at_lem n (λ j. all m (λ i. p i j)) t j hj) i hi

pub all_at_intro : (m n : ℕ) (p : ℕ → ℕ → Bool) → ((i j : ℕ) → i < m → j < n → T (p i j)) → T (all_at m n p)
unfolding all_at
all_at_intro m n p h = all_intro n (λ j. all m (λ i. p i j)) (λ j hj. all_intro m (λ i. p i j) (λ i hi. h i j hi hj))

-- for a loop: one more that passes; one that does not; all of them
pub all_more : (n : ℕ) (p : ℕ → Bool) → T (all n p) → T (p n) → T (all (n + 1) p)
unfolding all
all_more n p t u = rw add-one (and_both (all n p) (p n) t u)

pub all_at_more : (m n : ℕ) (p : ℕ → ℕ → Bool) → T (all_at m n p) → T (all m (λ i. p i n)) → T (all_at m (n + 1) p)
unfolding all_at
all_at_more m n p t u = all_more n (λ j. all m (λ i. p i j)) t u

pub all_broken : (n : ℕ) (p : ℕ → Bool) (i : ℕ) → i < n → T (not (p i)) → all n p ≡ false
all_broken n p i h u = false_of (all n p) (not_T (all n p) (λ t. T_not (p i) u (all_at_lem n p t i h)))

pub all_at_broken : (m n : ℕ) (p : ℕ → ℕ → Bool) (i j : ℕ) → i < m → j < n → T (not (p i j)) → all_at m n p ≡ false
all_at_broken m n p i j hi hj u = false_of (all_at m n p) (not_T (all_at m n p) (λ t. T_not (p i j) u (all_at_at m n p t i j hi hj)))

pub all_end : (n i : ℕ) (p : ℕ → Bool) → i ≤ n → n ≤ i → T (all i p) → T (all n p)
all_end n i p h k t = subst (λ (x : ℕ). T (all x p)) (le_antisymm h k) t

pub all_at_end : (m n j : ℕ) (p : ℕ → ℕ → Bool) → j ≤ n → n ≤ j → T (all_at m j p) → T (all_at m n p)
unfolding all_at
all_at_end m n j p h k t = all_end n j (λ j. all m (λ i. p i j)) h k t

pub all_none : (p : ℕ → Bool) → T (all 0 p)
unfolding all
all_none p = tt

pub all_at_none : (m : ℕ) (p : ℕ → ℕ → Bool) → T (all_at m 0 p)
unfolding all_at
all_at_none m p = all_none (λ j. all m (λ i. p i j))

pub all_same : (n : ℕ) (p q : ℕ → Bool) → ((i : ℕ) → i < n → q i ≡ p i) → all n q ≡ all n p
unfolding all
all_same zero p q h = refl
all_same (suc n) p q h = ap₂ ◌&&◌ (all_same n p q (λ i b. h i (omega arith))) (h n (le_refl (suc n)))

pub all_at_same : (m n : ℕ) (p q : ℕ → ℕ → Bool) → ((i j : ℕ) → i < m → j < n → q i j ≡ p i j) → all_at m n q ≡ all_at m n p
unfolding all_at
all_at_same m n p q h = all_same n _ _ (λ j hj. all_same m _ _ (λ i hi. h i j hi hj))

pub all_mirror : (n : ℕ) (p q : ℕ → Bool) → ((i i' : ℕ) → suc (i + i') ≡ n → q i ≡ p i') → all n q ≡ all n p
all_mirror n p q h = both_ways (all n q) (all n p) to from
  where
    to : T (all n q) → T (all n p)
    to t = all_intro n p (λ i hi. rw (← (h (n - suc i) i (omega arith))) (all_at_lem n q t (n - suc i) (omega arith)))

    from : T (all n p) → T (all n q)
    from t = all_intro n q (λ i hi. rw (h i (n - suc i) (omega arith)) (all_at_lem n p t (n - suc i) (omega arith)))

-- the same tests, met in mirrored columns, or with the axes swapped
pub all_at_mirror : (m n : ℕ) (p q : ℕ → ℕ → Bool) → ((i i' j : ℕ) → suc (i + i') ≡ m → j < n → q i j ≡ p i' j) → all_at m n q ≡ all_at m n p
all_at_mirror m n p q h = both_ways (all_at m n q) (all_at m n p) to from
  where
    to : T (all_at m n q) → T (all_at m n p)
    to t = all_at_intro m n p (λ i j hi hj. rw (← (h (m - suc i) i j (omega arith) hj)) (all_at_at m n q t (m - suc i) j (omega arith) hj))

    from : T (all_at m n p) → T (all_at m n q)
    from t = all_at_intro m n q (λ i j hi hj. rw (h i (m - suc i) j (omega arith) hj) (all_at_at m n p t (m - suc i) j (omega arith) hj))

pub all_at_swap : (m n : ℕ) (p q : ℕ → ℕ → Bool) → ((i j : ℕ) → i < n → j < m → q i j ≡ p j i) → all_at n m q ≡ all_at m n p
all_at_swap m n p q h = both_ways (all_at n m q) (all_at m n p) to from
  where
    to : T (all_at n m q) → T (all_at m n p)
    to t = all_at_intro m n p (λ i j hi hj. rw (← (h j i hj hi)) (all_at_at n m q t j i hj hi))

    from : T (all_at m n p) → T (all_at n m q)
    from t = all_at_intro n m q (λ i j hi hj. rw (h i j hi hj) (all_at_at m n p t j i hj hi))

-- ---- greatest

pub max_left : (a b : ℤ) → T (le_z a (max_z a b))
max_left a b = go (le_z a b) refl
  where
    go : (t : Bool) → le_z a b ≡ t → T (le_z a (cond t b a))
    go true e = subst T (sym e) tt
    go false e = le_z_refl a

le_z_total : (a b : ℤ) → T (not (le_z a b)) → T (le_z b a)
le_z_total (pos a) (pos b) t = lib.Dec.le→leb b a (let h = lib.Dec.nleb→lt a b t in omega arith)
le_z_total (pos a) (negsuc b) t = tt
le_z_total (negsuc a) (pos b) t = absurd t
le_z_total (negsuc a) (negsuc b) t = lib.Dec.le→leb a b (let h = lib.Dec.nleb→lt b a t in omega arith)

pub max_right : (a b : ℤ) → T (le_z b (max_z a b))
max_right a b = go (le_z a b) refl
  where
    go : (t : Bool) → le_z a b ≡ t → T (le_z b (cond t b a))
    go true e = le_z_refl b
    go false e = le_z_total a b (rw e tt)

pub max_le : (a b c : ℤ) → T (le_z a c) → T (le_z b c) → T (le_z (max_z a b) c)
max_le a b c h k = go (le_z a b)
  where
    go : (t : Bool) → T (le_z (cond t b a) c)
    go true = k
    go false = h

pub min_left : (a b : ℤ) → T (le_z (min_z a b) a)
min_left a b = go (le_z a b) refl
  where
    go : (t : Bool) → le_z a b ≡ t → T (le_z (cond t a b) a)
    go true e = le_z_refl a
    go false e = le_z_total a b (rw e tt)

pub min_right : (a b : ℤ) → T (le_z (min_z a b) b)
min_right a b = go (le_z a b) refl
  where
    go : (t : Bool) → le_z a b ≡ t → T (le_z (cond t a b) b)
    go true e = subst T (sym e) tt
    go false e = le_z_refl b

greatest_at : (n : ℕ) (f : ℕ → ℤ) (i : ℕ) → i < n → T (le_z (f i) (greatest n f))
unfolding greatest
greatest_at zero f i h = absurd (not-suc-le-zero h)
greatest_at (suc n) f i h = pick (greatest_at n f i) (eq-or-lt_of_le (le_of_suc-le-suc h))
  where
    pick : (i < n → T (le_z (f i) (greatest n f))) → (i ≡ n) ⊎ (i < n) → T (le_z (f i) (max_z (greatest n f) (f n)))
    pick ih (inl e) = rw e (max_right (greatest n f) (f n))
    pick ih (inr l) = le_z_trans (f i) (greatest n f) (max_z (greatest n f) (f n)) (ih l) (max_left (greatest n f) (f n))

greatest_le : (n : ℕ) (f : ℕ → ℤ) (b : ℤ) → T (le_z (pos 0) b) → ((i : ℕ) → i < n → T (le_z (f i) b)) → T (le_z (greatest n f) b)
unfolding greatest
greatest_le zero f b z h = z
greatest_le (suc n) f b z h = max_le (greatest n f) (f n) b (greatest_le n f b z (λ i l. h i (omega arith))) (h n (le_refl (suc n)))

greatest_nonneg : (n : ℕ) (f : ℕ → ℤ) → T (le_z (pos 0) (greatest n f))
unfolding greatest
greatest_nonneg zero f = tt
greatest_nonneg (suc n) f = le_z_trans (pos 0) (greatest n f) (max_z (greatest n f) (f n)) (greatest_nonneg n f) (max_left (greatest n f) (f n))

-- for a loop
pub greatest_none : (f : ℕ → ℤ) → greatest 0 f ≡ pos 0
unfolding greatest
greatest_none f = refl

pub greatest_more : (n : ℕ) (f : ℕ → ℤ) → greatest (n + 1) f ≡ max_z (greatest n f) (f n)
unfolding greatest
greatest_more n f = rw add-one refl

-- each number of the one stands somewhere in the other, both ways
pub greatest_same : (m n : ℕ) (f g : ℕ → ℤ) → ((i : ℕ) → i < m → (k : ℕ) × (k < n) × (f i ≡ g k)) → ((k : ℕ) → k < n → (i : ℕ) × (i < m) × (g k ≡ f i)) → greatest m f ≡ greatest n g
greatest_same m n f g to from =
    le_z_antisymm (greatest m f) (greatest n g)
    (greatest_le m f (greatest n g) (greatest_nonneg n g) (λ i h. rw (to i h).2 (greatest_at n g (to i h).0 (to i h).1)))
    (greatest_le n g (greatest m f) (greatest_nonneg m f) (λ k h. rw (from k h).2 (greatest_at m f (from k h).0 (from k h).1)))
