-- A window's edge against a chamber's number: the float test is the test of the exact numbers, a finite edge taken as the fraction that it is.
use Rattle.std.specs.Prelude.{◌≡◌, refl, Bool, true, false, not, ◌&&◌, ◌||◌, ℕ, zero, suc, ◌+◌, ◌*◌, ◌≤◌, ◌<◌, ◌^◌, T, leb, ltb, eqb, ℤ, pos, neg_ℤ, Float}
use Rattle.std.proofs.Common.{sym, ◌∙◌, ap, subst, true≢false, inl, inr, mul-one, mul_right_comm, mul-le-mul_right, le_of_mul-le-mul_right, le_of_eq, le_of_lt, ne_of_gt, eq-or-lt_of_le, zero-mul, mul-pos, zero-lt-suc, lt_irrefl, arith, leb→le, le→leb, ltb→lt, lt-ltb, le-ltb, eq-eqb, ne_eqb, leb-true, leb-false}
use Rattle.std.specs.Int.Signed.{le_z}
use Rattle.std.specs.Float.{nan, inf, fin, binary64}
use Rattle.std.specs.Float.Ieee.{up, down, lt, le, of_int}
use Rattle.std.specs.Float.Ieee.Exact.{HasValue}
use Rattle.std.specs.Float.Ieee.Back.{round_whole}
use Rattle.std.specs.Float.Ieee.Fits.{down_pos}
use Rattle.std.proofs.lemmas.Bool.{lt-leb}
use Rattle.rules.specs.Search.{as_float, in_order}
use Rattle.laws.specs.Tests.{both_ways, true_of}
use Rattle.laws.specs.Numbers.{le_z_signs}

-- ---- Exact numbers. A finite float is ±m · 2 ^ e, that is ±(m · up e) / down e, where 2 ^ e is up e / down e.

abbrev pub signed : Bool → ℕ → ℤ
signed false n = pos n
signed true n = neg_ℤ (pos n)

-- the edge is at most the whole number n
unfoldable pub at_most : Float → ℕ → Bool
at_most nan n = false
at_most (inf s) n = s
at_most (fin s m e) n = le_z (signed s (m * up e)) (pos (n * down e))

-- the edge is at least the whole number n
unfoldable pub at_least : Float → ℕ → Bool
at_least nan n = false
at_least (inf s) n = not s
at_least (fin s m e) n = le_z (pos (n * down e)) (signed s (m * up e))

-- ---- The laws behind it

-- `le` of two numbers that are not negative, as the floats' has it
le_is : (a b : ℕ) → (ltb a b || (eqb a b && true)) ≡ leb a b
le_is a b = go (leb a b) refl
  where
    go : (t : Bool) → leb a b ≡ t → (ltb a b || (eqb a b && true)) ≡ t
    go true e = elim (eq-or-lt_of_le (leb-true a b e)) [
      | inl p ↦ simp (le-ltb a b (le_of_eq (sym p)), eq-eqb a b p)
      | inr l ↦ simp (lt-ltb a b l)
    ]
    go false e = let l : b < a = leb-false a b e in simp (le-ltb a b (le_of_lt l), ne_eqb a b (ne_of_gt l))

-- -a ≤ b, as the floats' `le` has it
neg_le : (a b : ℕ) → (ltb 0 (a + b) || (eqb a b && (false || eqb a 0))) ≡ true
neg_le zero zero = refl
neg_le zero (suc b) = simp (lt-ltb 0 (zero + suc b) (omega arith))
neg_le (suc a) b = simp (lt-ltb 0 (suc a + b) (omega arith))

-- b ≤ -a, as the floats' `le` has it
le_neg : (b a : ℕ) → (false || (eqb b a && (false || eqb b 0))) ≡ le_z (pos b) (neg_ℤ (pos a))
le_neg zero zero = refl
le_neg zero (suc a) = simp (ne_eqb zero (suc a) (λ p. omega arith))
le_neg (suc b) zero = simp (ne_eqb (suc b) zero (λ p. omega arith), lt-leb (suc b) zero (omega arith))
le_neg (suc b) (suc a) = go (eqb (suc b) (suc a))
  where
    go : (t : Bool) → (t && eqb (suc b) 0) ≡ false
    go true = ne_eqb (suc b) 0 (λ p. omega arith)
    go false = refl

-- m' * 2 ^ d is the whole number n
whole : (m' : ℕ) (d : ℤ) (n : ℕ) (e : ℤ) → m' * up d * 1 ≡ n * down d → m' * up d * down e ≡ n * down e * down d
whole m' d n e v = ap (λ (z : ℕ). z * down e) (sym (mul-one (m' * up d)) ∙ v) ∙ mul_right_comm n (down d) (down e)

-- a common factor above 0 changes no order
scale : (a b k : ℕ) → 0 < k → leb (a * k) (b * k) ≡ leb a b
scale a b k h = both_ways (leb (a * k) (b * k)) (leb a b) (λ t. le→leb a b (le_of_mul-le-mul_right (leb→le (a * k) (b * k) t) h)) (λ t. le→leb (a * k) (b * k) (mul-le-mul_right k (leb→le a b t)))

scale_neg : (a b k : ℕ) → 0 < k → le_z (pos (a * k)) (neg_ℤ (pos (b * k))) ≡ le_z (pos a) (neg_ℤ (pos b))
scale_neg a zero k h = ap (λ (z : ℕ). le_z (pos (a * k)) (neg_ℤ (pos z))) (zero-mul k) ∙ ap (λ (z : ℕ). leb (a * k) z) (sym (zero-mul k)) ∙ scale a 0 k h
scale_neg a (suc b) k h = neg-suc (suc b * k) (mul-pos (zero-lt-suc b) h)
  where
    neg-suc : (z : ℕ) → 0 < z → le_z (pos (a * k)) (neg_ℤ (pos z)) ≡ false
    neg-suc zero l = absurd (lt_irrefl 0 l)
    neg-suc (suc z) l = refl

-- y is the whole number n: `x ≤ y` and `y ≤ x` are what the exact numbers say
at_most_value : (x y : Float) (n : ℕ) → HasValue y false n 1 → le x y ≡ at_most x n
unfolding le at_most
at_most_value x nan n v = absurd v
at_most_value x (inf s) n v = absurd v
at_most_value x (fin true m' d) n v = absurd (true≢false v.0)
at_most_value nan (fin false m' d) n v = refl
at_most_value (inf true) (fin false m' d) n v = refl
at_most_value (inf false) (fin false m' d) n v = refl
at_most_value (fin true m e) (fin false m' d) n v = neg_le (m * up e * down d) (m' * up d * down e) ∙ sym (true_of (le_z (neg_ℤ (pos (m * up e))) (pos (n * down e))) (le_z_signs (m * up e) (n * down e)))
at_most_value (fin false m e) (fin false m' d) n v =
    le_is (m * up e * down d) (m' * up d * down e)
    ∙ ap (λ (z : ℕ). leb (m * up e * down d) z) (whole m' d n e v.1)
    ∙ scale (m * up e) (n * down e) (down d) (down_pos d)

at_least_value : (x y : Float) (n : ℕ) → HasValue y false n 1 → le y x ≡ at_least x n
unfolding le at_least
at_least_value x nan n v = absurd v
at_least_value x (inf s) n v = absurd v
at_least_value x (fin true m' d) n v = absurd (true≢false v.0)
at_least_value nan (fin false m' d) n v = refl
at_least_value (inf true) (fin false m' d) n v = refl
at_least_value (inf false) (fin false m' d) n v = refl
at_least_value (fin true m e) (fin false m' d) n v =
    le_neg (m' * up d * down e) (m * up e * down d)
    ∙ ap (λ (z : ℕ). le_z (pos z) (neg_ℤ (pos (m * up e * down d)))) (whole m' d n e v.1)
    ∙ scale_neg (n * down e) (m * up e) (down d) (down_pos d)
at_least_value (fin false m e) (fin false m' d) n v =
    le_is (m' * up d * down e) (m * up e * down d)
    ∙ ap (λ (z : ℕ). leb z (m * up e * down d)) (whole m' d n e v.1)
    ∙ scale (n * down e) (m * up e) (down d) (down_pos d)

value : (n : ℕ) → n ≤ 2 ^ 53 → HasValue (as_float (pos n)) false n 1
unfolding of_int
value n h = round_whole binary64 false n h

-- ---- A low edge, and a high edge, against a whole number up to 2 ^ 53: the float test is the exact one
pub low_exact : (x : Float) (n : ℕ) → n ≤ 2 ^ 53 → le x (as_float (pos n)) ≡ at_most x n
low_exact x n h = at_most_value x (as_float (pos n)) n (value n h)

pub high_exact : (x : Float) (n : ℕ) → n ≤ 2 ^ 53 → le (as_float (pos n)) x ≡ at_least x n
high_exact x n h = at_least_value x (as_float (pos n)) n (value n h)

-- ---- Where the low edge lies above the high one, nothing lies between

neg-zero : (k m : ℕ) → T (le_z (pos k) (neg_ℤ (pos m))) → (m ≡ 0) × (k ≡ 0)
neg-zero k zero t = let l : k ≤ 0 = leb→le k 0 t in (refl, omega arith)
neg-zero k (suc m) t = absurd t

zero_of_mul : (n k : ℕ) → 0 < k → n * k ≡ 0 → n ≡ 0
zero_of_mul zero k h e = refl
zero_of_mul (suc n) k h e = absurd (lt_irrefl 0 (subst (λ (z : ℕ). 0 < z) e (mul-pos (zero-lt-suc n) h)))

no_way : (lo hi : Float) (n : ℕ) → T (at_most lo n) → T (at_least hi n) → T (lt hi lo) → ⊥
unfolding at_most at_least lt
no_way nan hi n p q r = p
no_way (inf true) nan n p q r = q
no_way (inf true) (inf true) n p q r = r
no_way (inf true) (inf false) n p q r = r
no_way (inf true) (fin t m d) n p q r = r
no_way (inf false) hi n p q r = p
no_way (fin s m e) nan n p q r = q
no_way (fin s m e) (inf true) n p q r = q
no_way (fin s m e) (inf false) n p q r = r
no_way (fin false m e) (fin false k d) n p q r =
    let a : m * up e * down d ≤ n * down e * down d = mul-le-mul_right (down d) (leb→le (m * up e) (n * down e) p) in
    let b : n * down d * down e ≤ k * up d * down e = mul-le-mul_right (down e) (leb→le (n * down d) (k * up d) q) in
    let c : k * up d * down e < m * up e * down d = ltb→lt (k * up d * down e) (m * up e * down d) r in
    omega (arith, mul_right_comm n (down e) (down d))
no_way (fin true m e) (fin false k d) n p q r = r
no_way (fin false m e) (fin true k d) n p q r =
    let z = neg-zero (n * down d) (k * up d) q in
    let n_zero : n * down e ≡ 0 = ap (λ (j : ℕ). j * down e) (zero_of_mul n (down d) (down_pos d) z.1) ∙ zero-mul (down e) in
    let m_zero : m * up e ≡ 0 = (let l : m * up e ≤ n * down e = leb→le (m * up e) (n * down e) p in omega arith) in
    let c : 0 < k * up d * down e + m * up e * down d = ltb→lt 0 (k * up d * down e + m * up e * down d) r in
    let x : k * up d * down e ≡ 0 = ap (λ (j : ℕ). j * down e) z.0 ∙ zero-mul (down e) in
    let y : m * up e * down d ≡ 0 = ap (λ (j : ℕ). j * down d) m_zero ∙ zero-mul (down d) in
    lt_irrefl 0 (omega arith)
no_way (fin true m e) (fin true k d) n p q r =
    let z = neg-zero (n * down d) (k * up d) q in
    let c : m * up e * down d < k * up d * down e = ltb→lt (m * up e * down d) (k * up d * down e) r in
    let x : k * up d * down e ≡ 0 = ap (λ (j : ℕ). j * down e) z.0 ∙ zero-mul (down e) in
    lt_irrefl 0 (omega arith)

neither : (a b : Bool) → (T a → T b → ⊥) → (a && b) ≡ false
neither true true f = absurd (f tt tt)
neither true false f = refl
neither false b f = refl

pub none_in_order : (low high : Float) (n : ℕ) → n ≤ 2 ^ 53 → T (lt high low) → in_order low (as_float (pos n)) high ≡ false
none_in_order low high n h l =
    neither (le low (as_float (pos n))) (le (as_float (pos n)) high)
    (λ a b. no_way low high n (subst T (low_exact low n h) a) (subst T (high_exact high n h) b) l)
