-- `to_read`: all where the card and the lengths pass, and none where one is refused.
use mathlib.Core.Path.{sym, ◌∙◌}
use Rattle.laws.specs.Outcomes.{if_done_lem, if_refused}
use Rattle.laws.specs.Refusing.{number-ne0}
use Rattle.records.specs.Row.{to_read}
use Rattle.records.proofs.to_read.Goals as goal

pub returns-in-Ok : goal.returns-in-Ok
unfolding to_read
returns-in-Ok c = sym (if_done_lem _ _ _ (sym c.in-Ok.ensures))

pub returns-in-Err : goal.returns-in-Err
unfolding to_read
returns-in-Err c = sym (if_refused _ _ _ (λ z. number-ne0 c.in-Err.field-0 (c.in-Err.ensures ∙ z)))
