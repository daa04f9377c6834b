-- `remove_number`: the chamber's refusal, and then 13.
use native.Mathlib.Omega.{arith}
use Rattle.std.proofs.Common.{rules}
use mathlib.Core.Path.{◌≡◌, refl, sym, ◌∙◌}
use mathlib.Core.Bool.{true, false}
use Rattle.laws.specs.Outcomes.{first_passed}
use Rattle.pins_laws.specs.Granted.{chamber_granted}
use Rattle.pins_rules.specs.Refusals.{refusal_number, outcome_number}
use Rattle.pins_rules.specs.Table.{pin, pinned, stands as table_stands}
use Rattle.pins_rules.specs.Calls.{remove_number}
use Rattle.pin_numbers.proofs.Passing.{passed_on, pin_stands}
use Rattle.pin_numbers.proofs.remove_number.Goals as goal

pub returns-in_err-chamber_number : goal.returns-in_err-chamber_number
unfolding remove_number
returns-in_err-chamber_number c =
    let same : outcome_number c.from_residual.result ≡ refusal_number c.in_err-chamber_number.field-0.0 = search rules in
    same ∙ passed_on c.in_err-chamber_number.field-0.0 _ c.in_err-chamber_number.ensures

pub pin-requires : goal.pin-requires
pin-requires c = let g = chamber_granted _ _ _ (sym c.in_ok-chamber_number.ensures) in (omega (arith, g.known.most), g.below)

pub returns-then-not-stands : goal.returns-then-not-stands
unfolding remove_number pinned
returns-then-not-stands c =
    let has = c.args.table.now in
    let stands_is : table_stands (pin c.args.crew c.args.chamber) has ≡ false = pin_stands _ _ has c.stands.ensures c.pin.ensures c.if-not-stands.true in
    sym (first_passed _ _ (sym c.in_ok-chamber_number.ensures) ∙ rw stands_is refl)

pub returns : goal.returns
unfolding remove_number pinned
returns c =
    let has = c.args.table.now in
    let stands_is : table_stands (pin c.args.crew c.args.chamber) has ≡ true = pin_stands _ _ has c.stands.ensures c.pin.ensures c.if-not-stands.false in
    sym (first_passed _ _ (sym c.in_ok-chamber_number.ensures) ∙ rw stands_is refl)
