-- A float at or above 0, as `0.0 <= x` tests it: it is no NaN, and its bits have no sign, but those of -0.0.
use Prim.Native.Nat.{ℕ, zero, suc, ◌+◌, ◌-◌, ◌*◌, ◌/◌, ◌^◌, ◌≤◌, ◌<◌}
use mathlib.Core.Path.{◌≡◌, sym, ap, ◌∙◌, subst}
use mathlib.Core.Bool.{Bool, true, false, not, ◌&&◌, ◌||◌, beq, cond}
use native.Mathlib.Nat.{le_of_eq, add_assoc, zero-add, zero-mul, zero-div}
use native.Mathlib.Omega.{arith}
use lib.Dec.{T, ltb, eqb-suc-zero, lit≤}
use lib.IntN.{ℤ}
use lib.Ieee.{Float, nan, inf, fin, Format, binary64, fits, is_nan, up, down, round, sum, add, size, hid, le, lt, eq, of_bits, to_bits}
use lib.Ieee.Bits.{to_bits-lt}
use Rattle.laws.specs.Rounded.{rounded}
use Rattle.laws.specs.NotBelow.{at_least_0}

-- above 0 is at or above it
pub if_above : (v : Float) → lt (of_bits binary64 0) v ≡ true → T (le (of_bits binary64 0) v)
unfolding le
if_above v e = subst (λ (b : Bool). T (b || eq (of_bits binary64 0) v)) (sym e) tt

pub number : (x : Float) → T (le (of_bits binary64 0) x) → T (not (is_nan x))
unfolding le lt eq of_bits is_nan
number nan h = absurd h
number (inf s) h = tt
number (fin s m e) h = tt

-- ---- No rounding gives a NaN, and what is added to a number leaves a number

abbrev Number : Float → Type 0
Number x = T (not (is_nan x))

one_of : (b : Bool) (x y : Float) → Number x → Number y → Number (cond b x y)
one_of true x y h k = h
one_of false x y h k = k

round_number : (f : Format) (s : Bool) (a c : ℕ) → Number (round f s a c)
unfolding is_nan
round_number f s a c = rounded Number f s a c tt (λ m e. tt)

pub plus_number : (x : Float) (s : Bool) (k : ℕ) (e : ℤ) → Number x → Number (add binary64 x (fin s k e))
unfolding add sum is_nan
plus_number nan s k e h = absurd h
plus_number (inf t) s k e h = tt
plus_number (fin t m d) s k e h =
    let a = m * up d * down e in
    let b = k * up e * down d in
    let c = down d * down e in
    one_of (beq t s) (round binary64 t (a + b) c) (cond (ltb a b) (round binary64 s (b - a) c) (round binary64 (t && ltb b a) (a - b) c))
    (round_number binary64 t (a + b) c)
    (one_of (ltb a b) (round binary64 s (b - a) c) (round binary64 (t && ltb b a) (a - b) c) (round_number binary64 s (b - a) c) (round_number binary64 (t && ltb b a) (a - b) c))

-- ---- The bits

sign_added : (m : ℕ) (e : ℤ) → to_bits binary64 (fin true m e) ≡ 0x8000_0000_0000_0000 + to_bits binary64 (fin false m e)
unfolding to_bits
sign_added m e =
    let n = m * up e * 2 ^ 1074 / down e in
    add_assoc 0x8000_0000_0000_0000 ((size n - 53) * hid binary64) (n / 2 ^ (size n - 53))
    ∙ ap (λ (k : ℕ). 0x8000_0000_0000_0000 + (k + n / 2 ^ (size n - 53))) (sym (zero-add ((size n - 53) * hid binary64)))

bits_of_0 : (e : ℤ) → to_bits binary64 (fin false 0 e) ≡ 0
unfolding to_bits size
bits_of_0 e =
    ap (λ (n : ℕ). 0 + (size n - 53) * hid binary64 + n / 2 ^ (size n - 53))
    (ap (λ (k : ℕ). k / down e) (ap (λ (k : ℕ). k * 2 ^ 1074) (zero-mul (up e)) ∙ zero-mul (2 ^ 1074)) ∙ zero-div (down e))

infinity_below : to_bits binary64 (inf false) ≤ 0x8000_0000_0000_0000
unfolding to_bits
infinity_below = lit≤ tt

pub no_sign : (x : Float) → T (fits binary64 x) → T (le (of_bits binary64 0) x) → to_bits binary64 x ≤ 0x8000_0000_0000_0000
unfolding le lt eq of_bits fits
no_sign nan f h = absurd h
no_sign (inf true) f h = absurd h
no_sign (inf false) f h = infinity_below
no_sign (fin false m e) f h = under (to_bits binary64 (fin false m e)) (to_bits binary64 (fin true m e)) (sign_added m e) (to_bits-lt binary64 (fin true m e) f)
  where
    under : (u v : ℕ) → v ≡ 0x8000_0000_0000_0000 + u → v < 0x1_0000_0000_0000_0000 → u ≤ 0x8000_0000_0000_0000
    under u v e l = omega arith
no_sign (fin true zero e) f h = le_of_eq (sign_added 0 e ∙ ap (λ (k : ℕ). 0x8000_0000_0000_0000 + k) (bits_of_0 e))
no_sign (fin true (suc m) e) f h = absurd (subst T (at_least_0 true (suc m) e ∙ eqb-suc-zero m) h)
