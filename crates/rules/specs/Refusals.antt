-- The refusals by name, and document 01's number of each.
use Rattle.std.specs.Prelude.{ℕ, Result, Ok, Err}
use Rattle.rules.specs.declared.refusals.Refusal.{Refusal}
use Rattle.rules.specs.declared.refusals.Refusal.TheVariants.{Card, Length, Value, StepLimit, TooHigh, TooFast, Room, Sheet, Raster}

abbrev pub refusal_number : Refusal → ℕ
refusal_number Card = 1
refusal_number Length = 2
refusal_number Value = 3
refusal_number StepLimit = 4
refusal_number TooHigh = 5
refusal_number TooFast = 7
refusal_number Room = 8
refusal_number Sheet = 9
refusal_number Raster = 10

-- what a call ended with: 0 where it is done
abbrev pub outcome_number : {T : Type 0} → Result T Refusal → ℕ
outcome_number (Ok done) = 0
outcome_number (Err refusal) = refusal_number refusal
