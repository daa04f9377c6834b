-- The refusals of the pin table by name, and document 02's number of each.
use Rattle.std.specs.Prelude.{ℕ, Result, Ok, Err}
use Rattle.pins_rules.specs.declared.refusals.PinRefusal.{PinRefusal}
use Rattle.pins_rules.specs.declared.refusals.PinRefusal.TheVariants.{Length, Table, Crew, Chamber, Pinned, Full}

abbrev pub refusal_number : PinRefusal → ℕ
refusal_number Length = 2
refusal_number Table = 3
refusal_number Crew = 11
refusal_number Chamber = 12
refusal_number Pinned = 13
refusal_number Full = 14

-- what a call ended with: 0 where it is done
abbrev pub outcome_number : {T : Type 0} → Result T PinRefusal → ℕ
outcome_number (Ok done) = 0
outcome_number (Err refusal) = refusal_number refusal
