-- A float at or above 0, as `0.0 <= x` tests it: of a finite one that it has no sign or is 0; and a product by a factor above 0 is at or above 0 where its value is.
use Rattle.std.specs.Prelude.{ℕ, zero, suc, ◌*◌, ◌<◌, ◌≡◌, refl, Bool, true, false, not, ◌||◌, T, eqb, ℤ, pos, Float}
use Rattle.std.proofs.Common.{zero-le, sym, ap, ◌∙◌, subst, le_trans, le_of_eq, ne_of_gt, zero-lt-suc, mul-pos, zero-mul, mul-one, eqb→eq, lit<, ne_eqb}
use Rattle.std.proofs.Math.Dec.{eqb-suc-zero}
use Rattle.std.specs.Float.{nan, inf, fin, binary64}
use Rattle.std.specs.Float.Ieee.{up, down, size, span, climb, odd, units, round, mul, le, lt, eq, of_bits}
use Rattle.std.specs.Float.Ieee.Fits.{up_pos, down_pos}
use Rattle.std.specs.Float.Ieee.Order.{le_of_values}
use Rattle.std.specs.Float.Ieee.Scale.{round_same}
use Rattle.std.specs.Float.Ieee.Positive.{positive}
use Rattle.laws.specs.Tests.{true_of}
use Rattle.laws.specs.Rounded.{rounded}

pub at_least_0 : (s : Bool) (m : ℕ) (e : ℤ) → le (of_bits binary64 0) (fin s m e) ≡ (not s || eqb m 0)
unfolding le lt eq of_bits
at_least_0 false m e =
    true_of (le (fin false 0 (pos 0)) (fin false m e))
    (le_of_values (fin false 0 (pos 0)) (fin false m e) 0 1 (m * up e) (down e) (lit< tt) (down_pos e) (refl, refl) (refl, refl) (le_trans (le_of_eq (zero-mul (down e))) zero-le))
at_least_0 true zero e = rw (zero-mul (down e), zero-mul (up e))
at_least_0 true (suc m) e = rw (zero-mul (down e), mul-one (suc m * up e), ne_eqb 0 (suc m * up e) (λ z. ne_of_gt (mul-pos (zero-lt-suc m) (up_pos e)) (sym z))) (sym (eqb-suc-zero m))

-- ---- The product

round_at_least_0 : (a c : ℕ) → T (le (of_bits binary64 0) (round binary64 false a c))
unfolding le lt of_bits
round_at_least_0 a c = rounded (λ z. T (le (of_bits binary64 0) z)) binary64 false a c tt (λ m e. subst T (sym (at_least_0 false m e)) tt)

-- of -0.0
rounded_0 : round binary64 true 0 1 ≡ fin true 0 (pos 0)
unfolding round units odd size span climb
rounded_0 = refl

minus_0 : (a c : ℕ) → 0 < c → a ≡ 0 → T (le (of_bits binary64 0) (round binary64 true a c))
unfolding of_bits le lt eq
minus_0 a c C e =
    subst (λ (z : Float). T (le (fin false 0 (pos 0)) z))
    (sym (ap (λ (n : ℕ). round binary64 true n c) e ∙ round_same binary64 true 0 c 0 1 C (lit< tt) (sym (zero-mul c)) ∙ rounded_0))
    tt

-- of an infinity
pub infinite : (k : Float) → T (positive k) → mul binary64 (inf false) k ≡ inf false
unfolding mul
infinite nan h = absurd h
infinite (inf s) h = absurd h
infinite (fin true n d) h = absurd h
infinite (fin false zero d) h = absurd h
infinite (fin false (suc n) d) h = rw (eqb-suc-zero n)

pub product_at_least_0 : (v k : Float) → T (positive k) → T (le (of_bits binary64 0) v) → T (le (of_bits binary64 0) (mul binary64 v k))
unfolding of_bits le lt mul
product_at_least_0 nan k h l = absurd l
product_at_least_0 (inf true) k h l = absurd l
product_at_least_0 (inf false) k h l = subst (λ (z : Float). T (le (fin false 0 (pos 0)) z)) (sym (infinite k h)) tt
product_at_least_0 (fin s m e) nan h l = absurd h
product_at_least_0 (fin s m e) (inf t) h l = absurd h
product_at_least_0 (fin s m e) (fin true n d) h l = absurd h
product_at_least_0 (fin false m e) (fin false n d) h l = round_at_least_0 (m * up e * (n * up d)) (down e * down d)
product_at_least_0 (fin true m e) (fin false n d) h l =
    let none : m ≡ 0 = eqb→eq m 0 (subst T (at_least_0 true m e) l) in
    minus_0 (m * up e * (n * up d)) (down e * down d) (mul-pos (down_pos e) (down_pos d))
    (ap (λ (j : ℕ). j * up e * (n * up d)) none ∙ ap (λ (j : ℕ). j * (n * up d)) (zero-mul (up e)) ∙ zero-mul (n * up d))
