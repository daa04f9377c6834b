-- `pins_list`: refused, and the list stays; or done, and the crew's pins are laid at its front.
use lib.ListN.{length}
use lib.Dec.{eqb, eqb→eq}
use Rattle.laws.specs.Tests.{to_T, and_left}
use mathlib.Core.Path.{sym, ◌∙◌}
use native.Mathlib.Omega.{arith}
use Rattle.pins_rules.specs.Calls.{list_number}
use Rattle.pins_laws.specs.Refusing.{number-ne0}
use Rattle.pins_laws.specs.Granted.{list_granted}
use Rattle.pins_laws.specs.Counts.{as_many_as_held}
use Rattle.pins.proofs.Answers.{list_refused, list_done}
use Rattle.pins.proofs.pins_list.Goals as goal

pub crew_number-requires : goal.crew_number-requires
crew_number-requires c = λ e. eqb→eq (length c.args.table.now) 64 (and_left (eqb (length c.args.table.now) 64) _ (to_T e))

pub returns-in-Err : goal.returns-in-Err
unfolding list_number
returns-in-Err c = list_refused (c.from-number.ensures ∙ c.in-Err.ensures) (λ z. number-ne0 c.in-Err.refusal (sym c.from-number.ensures ∙ z))

pub list-count-requires : goal.list-count-requires
unfolding list_number
list-count-requires c = list_granted _ _ _ (sym c.in_default.ensures)

pub overflow_cast-count : goal.overflow_cast-count
unfolding list_number
overflow_cast-count c =
    let g = list_granted c.args.table.now c.args.crew c.args.found.now (sym c.in_default.ensures) in
    omega (arith, c.list-count.ensures.counted, as_many_as_held c.args.crew g.known c.args.table.now g.is_sound.words g.is_sound.once, g.is_sound.few g.known)

pub returns : goal.returns
unfolding list_number
returns c = list_done (sym c.in_default.ensures) c.list-count.ensures
