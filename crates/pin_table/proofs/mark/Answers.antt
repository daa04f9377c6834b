-- `mark`: a free word marks nothing; of a pin the mark is read and stored by its chamber and its crew.
use Rattle.pins_laws.specs.Marks.{marked_free, marked_pin}
use Rattle.pin_table.proofs.mark.Goals as goal

pub returns-then-word-eq0 : goal.returns-then-word-eq0
returns-then-word-eq0 c = marked_free c.if-word-eq0.true

pub returns : goal.returns
returns c = marked_pin c.chamber_of-at.ensures c.crew_of-crew.ensures
