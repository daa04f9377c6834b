-- `chamber_number`: what every call asks, and then the chamber.
use borrow.Author.Tests.{eqb-true}
use Rattle.std.proofs.Common.{rules}
use mathlib.Core.Path.{◌≡◌, refl, sym, ◌∙◌}
use Rattle.laws.specs.Outcomes.{first_passed}
use Rattle.pins_rules.specs.Refusals.{refusal_number, outcome_number}
use Rattle.pins_rules.specs.Calls.{chamber_number}
use Rattle.pin_numbers.proofs.Passing.{passed_on}
use Rattle.pin_numbers.proofs.chamber_number.Goals as goal

pub crew_number-requires : goal.crew_number-requires
crew_number-requires c = λ e. eqb-true _ 64 e

pub returns-in_err-crew_number : goal.returns-in_err-crew_number
unfolding chamber_number
returns-in_err-crew_number c =
    let same : outcome_number c.from_residual.result ≡ refusal_number c.in_err-crew_number.field-0.0 = search rules in
    same ∙ passed_on c.in_err-crew_number.field-0.0 _ c.in_err-crew_number.ensures

pub returns-then-not-is_chamber : goal.returns-then-not-is_chamber
unfolding chamber_number
returns-then-not-is_chamber c = sym (first_passed _ _ (sym c.in_ok-crew_number.ensures) ∙ rw (sym c.is_chamber.ensures ∙ c.if-not-is_chamber.true) refl)

pub returns : goal.returns
unfolding chamber_number
returns c = sym (first_passed _ _ (sym c.in_ok-crew_number.ensures) ∙ rw (sym c.is_chamber.ensures ∙ c.if-not-is_chamber.false) refl)
