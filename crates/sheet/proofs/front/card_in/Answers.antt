-- `card_in`: field by field.
use Rattle.rules.specs.Sheet.{card_in}
use Rattle.sheet.proofs.front.card_in.Goals as goal

pub returns : goal.returns
unfolding card_in
returns c = λ i. record { columns = c.number-columns.ensures i; rows = c.number-rows.ensures i; dx = c.number-dx.ensures i; dy = c.number-dy.ensures i; dt = c.number-dt.ensures i; steps = c.number-steps.ensures i }
