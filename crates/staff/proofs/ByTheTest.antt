-- What `measured` answers, by the test that it makes of the value.
use mathlib.Core.Path.{◌≡◌, refl, sym, ◌∙◌, subst}
use mathlib.Core.Bool.{true, false, not, ◌||◌, cond}
use lib.Dec.{T, eqb}
use lib.IntN.{pos}
use lib.Ieee.{Float, nan, inf, fin, binary64, mul, le, lt, eq, of_bits}
use lib.Ieee.Positive.{positive}
use Rattle.rules.specs.Staff.{value_fits, product_fits, nearest_whole, with_height, without_height, measured}
use Rattle.laws.specs.Tests.{true_of}
use Rattle.laws.specs.NotBelow.{at_least_0, infinite}

pub tested : (v k : Float) → T (positive k) → T (le (of_bits binary64 0) v) → cond (product_fits (mul binary64 v k)) (with_height (pos (nearest_whole (mul binary64 v k)))) (without_height 3) ≡ measured v (mul binary64 v k)
unfolding measured value_fits product_fits of_bits le lt eq
tested nan k h l = absurd l
tested (inf true) k h l = absurd l
tested (inf false) k h l = rw (infinite k h)
tested (fin s m e) k h l = rw (true_of (not s || eqb m 0) (subst T (at_least_0 s m e) l))

pub below_0 : (v p : Float) → le (of_bits binary64 0) v ≡ false → without_height 3 ≡ measured v p
unfolding measured value_fits
below_0 nan p h = refl
below_0 (inf s) p h = refl
below_0 (fin s m e) p h = rw (sym (at_least_0 s m e) ∙ h)
