-- `check`: the front's refusal, and then the values' with the pumps'. Whether the one more list is as long as a state is asked for 2.
use mathlib.Core.Path.{◌≡◌, sym, refl, ◌∙◌}
use Rattle.std.proofs.Common.{rules}
use Rattle.rules.specs.Refusals.{refusal_number, outcome_number}
use Rattle.laws.specs.Refusing.{number-ne0}
use Rattle.site.specs.Front.{front_sized}
use Rattle.pumps.proofs.Checks.{by_the_front, by_the_values}
use Rattle.pumps.proofs.check.Goals as goal

pub returns-in_err-front : goal.returns-in_err-front
returns-in_err-front c =
    let same : outcome_number c.from_residual.result ≡ refusal_number c.in_err-front.field-0.0 = search rules in
    same ∙ by_the_front _ _ _ _ _ c.few.ensures c.whole.ensures c.is_state.ensures c.in_err-front.ensures (number-ne0 c.in_err-front.field-0.0)

pub pumps_fit-requires : goal.pumps_fit-requires
pumps_fit-requires c = (front_sized _ _ _ _ _ (sym c.in_ok-front.ensures)).card

pub values_number-requires : goal.values_number-requires
values_number-requires c = front_sized _ _ _ _ _ (sym c.in_ok-front.ensures)

pub returns : goal.returns
returns c = by_the_values _ _ _ _ _ c.few.ensures c.whole.ensures c.is_state.ensures (c.in_ok-front.ensures) refl c.pumps_fit.ensures c.values_number.ensures
