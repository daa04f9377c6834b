-- What a value's height is answered by, and which reading a kind is that comes across C.
use Rattle.std.specs.Prelude.{ℕ, zero, suc, ℤ, Float, Result, Ok, Err}
use Rattle.rules.specs.declared.Reading.{Reading}
use Rattle.rules.specs.declared.Reading.TheVariants.{Metres, Feet, Nothing}
use Rattle.rules.specs.declared.Staff.{Staff}
use Rattle.rules.specs.declared.refusals.Refusal.{Refusal}
use Rattle.rules.specs.declared.refusals.Refusal.TheVariants.{Value}
use Rattle.rules.specs.Refusals.{refusal_number}
use Rattle.rules.specs.Staff.{with_height, without_height}

-- a height, or no height and why
abbrev pub height_of : Result ℤ Refusal → Staff
height_of (Ok height) = with_height height
height_of (Err refusal) = without_height (refusal_number refusal)

-- any other kind is refused with 3
unfoldable pub reading_of : (kind : ℕ) (value : Float) → Result Reading Refusal
reading_of zero value = Ok Nothing
reading_of (suc zero) value = Ok (Metres value)
reading_of (suc (suc zero)) value = Ok (Feet value)
reading_of (suc (suc (suc kind))) value = Err Value
