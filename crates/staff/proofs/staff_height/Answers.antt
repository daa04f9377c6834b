-- `staff_height`: each kind of reading by the factor of its unit.
use Rattle.std.specs.Prelude.{Ok, Err, None}
use Rattle.rules.specs.Answers.{staff_of}
use mir.Syntax.{w32}
use mir.Facts.{to_z-of_z}
use mathlib.Core.Path.{◌≡◌, refl, sym, ap, ◌∙◌}
use borrow.Author.Rules.{rules}
use lib.Count.{count_trailing_zeros}
use lib.Ieee.{Float, binary64, size, span, climb, odd, units, round, mul, of_int, of_fields, of_bits}
use Rattle.rules.specs.declared.Reading.TheVariants.{Metres, Feet, Nothing}
use Rattle.rules.specs.Staff.{with_height, product, measured, without_height}
use Rattle.rules.specs.Calls.{staff_answer}
use Rattle.staff.proofs.staff_height.Goals as goal

-- the literals are 1,000,000 and 304,800
in_metres : (v : Float) → measured v (mul binary64 v (of_bits binary64 0x412e_8480_0000_0000)) ≡ staff_answer (Metres v)
unfolding staff_answer product of_int round units odd size span climb count_trailing_zeros of_bits of_fields
in_metres v = refl

in_feet : (v : Float) → measured v (mul binary64 v (of_bits binary64 0x4112_9a80_0000_0000)) ≡ staff_answer (Feet v)
unfolding staff_answer product of_int round units odd size span climb count_trailing_zeros of_bits of_fields
in_feet v = refl

nothing : staff_of (Ok None) ≡ staff_answer Nothing
unfolding staff_answer without_height
nothing = refl

pub measured-requires : goal.measured-requires
unfolding of_bits
measured-requires c = tt

pub measured-requires-in-Feet : goal.measured-requires-in-Feet
unfolding of_bits
measured-requires-in-Feet c = tt

pub returns-in_err-measured-in-Metres : goal.returns-in_err-measured-in-Metres
unfolding without_height
returns-in_err-measured-in-Metres c =
    let same : c.from_residual.result ≡ Err c.in_err-measured-in-Metres.field-0.0 = search rules in
    record { answer = ap staff_of same ∙ c.in_err-measured-in-Metres.ensures ∙ in_metres _ ∙ ap staff_answer (sym (search rules)) }

pub returns-in_ok-measured-in-Metres : goal.returns-in_ok-measured-in-Metres
unfolding with_height
returns-in_ok-measured-in-Metres c = record { answer = ap with_height (to_z-of_z {w = w32} (search rules)) ∙ c.in_ok-measured-in-Metres.ensures ∙ in_metres _ ∙ ap staff_answer (sym (search rules)) }

pub returns-in_err-measured-in-Feet : goal.returns-in_err-measured-in-Feet
unfolding without_height
returns-in_err-measured-in-Feet c =
    let same : c.from_residual-in_err-measured-in-Feet.result ≡ Err c.in_err-measured-in-Feet.field-0.0 = search rules in
    record { answer = ap staff_of same ∙ c.in_err-measured-in-Feet.ensures ∙ in_feet _ ∙ ap staff_answer (sym (search rules)) }

pub returns-in_ok-measured-in-Feet : goal.returns-in_ok-measured-in-Feet
unfolding with_height
returns-in_ok-measured-in-Feet c = record { answer = ap with_height (to_z-of_z {w = w32} (search rules)) ∙ c.in_ok-measured-in-Feet.ensures ∙ in_feet _ ∙ ap staff_answer (sym (search rules)) }

pub returns-in-Nothing : goal.returns-in-Nothing
returns-in-Nothing c = record { answer = nothing ∙ ap staff_answer (sym (search rules)) }
