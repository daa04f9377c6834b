-- `step`: a check that fails is the answer and leaves the next state as lent; where all pass the site is sound, and without pumps the step is the pumped one.
use Rattle.std.proofs.Common.{rules, sym, ◌≡◌, length}
use Rattle.laws.specs.PumpChecks.{checked_with}
use Rattle.step.proofs.Rooms.{refused_early, handed_over, none_handed}
use Rattle.step.proofs.step.Goals as goal

pub returns-in_err-check : goal.returns-in_err-check
returns-in_err-check g c = refused_early c.in_err-check.field-0.0 (search rules) c.in_err-check.ensures

pub step_within-requires : goal.step_within-requires
step_within-requires g c = (checked_with _ _ _ _ _ (sym c.in_ok-check.ensures)).site

pub returns-then-is_empty : goal.returns-then-is_empty
returns-then-is_empty g c =
    let none : length c.args.pumps.now ≡ 0 = search rules in
    handed_over (sym c.in_ok-check.ensures) (none_handed _ _ _ _ _ _ none c.step_within.ensures)

pub pumped_within-requires : goal.pumped_within-requires
pumped_within-requires g c = checked_with _ _ _ _ _ (sym c.in_ok-check.ensures)

pub returns : goal.returns
returns g c = handed_over (sym c.in_ok-check.ensures) c.pumped_within.ensures
