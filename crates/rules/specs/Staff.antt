-- Document 02, [1], "Staff readings": what an inspector typed becomes a height, or is refused.
-- A float (the kit's lib.Ieee) is a NaN, an infinity, or fin s m e: m · 2 ^ e, m being its whole significand, e its exponent and s its sign, true for -. Of a finite
-- one 2 ^ e is the fraction up e / down e, so that all that is said of it below is said of whole numbers.
use Rattle.std.specs.Prelude.{ℕ, ◌+◌, ◌*◌, ◌/◌, Bool, false, not, ◌&&◌, ◌||◌, cond, ℤ, pos, leb, eqb, Float}
use Rattle.std.specs.Float.{nan, inf, fin, binary64}
use Rattle.std.specs.Float.Ieee.{up, down, mul}
use Rattle.rules.specs.declared.Staff.{Staff}
use Rattle.rules.specs.Search.{as_float}

-- ---- One value

-- refusal 3: a value not finite, or below 0; -0.0 is 0
unfoldable pub value_fits : Float → Bool
value_fits nan = false
value_fits (inf s) = false
value_fits (fin s m e) = not s || eqb m 0

-- ---- Its product. Its sign is not asked: where the value fits it is +, or - with m = 0

-- a value times the factor of its unit, rounded once as floats do
unfoldable pub product : (factor : ℕ) (value : Float) → Float
product factor v = mul binary64 v (as_float (pos factor))

-- refusal 3: a product above 50,000,000; one that overflows is an infinity, and above
unfoldable pub product_fits : Float → Bool
product_fits nan = false
product_fits (inf s) = false
product_fits (fin s m e) = leb (m * up e) (50000000 * down e)

-- the whole micrometre nearest to a product, halves up: m · 2 ^ e + 1/2, without what is behind its point
unfoldable pub nearest_whole : Float → ℕ
nearest_whole nan = 0
nearest_whole (inf s) = 0
nearest_whole (fin s m e) = (2 * (m * up e) + down e) / (2 * down e)

-- ---- What a reading is answered by: its number, whether there is a height, and the height

unfoldable pub with_height : (height : ℤ) → Staff
with_height h = record { number = 0; read = 1; height = h }

unfoldable pub without_height : (number : ℕ) → Staff
without_height k = record { number = k; read = 0; height = pos 0 }

-- a value and its product: read, or refused with 3
unfoldable pub measured : (value product : Float) → Staff
measured v p = cond (value_fits v && product_fits p) (with_height (pos (nearest_whole p))) (without_height 3)
