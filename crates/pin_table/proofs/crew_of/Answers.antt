-- `crew_of`: the quotient is the definition's.
use mathlib.Core.Path.{refl}
use Rattle.pins_rules.specs.Table.{crew_of}
use Rattle.pin_table.proofs.crew_of.Goals as goal

pub returns : goal.returns
unfolding crew_of
returns c = refl
