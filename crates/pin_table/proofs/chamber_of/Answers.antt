-- `chamber_of`: the rest is the definition's.
use mathlib.Core.Path.{refl}
use Rattle.pins_rules.specs.Table.{chamber_of}
use Rattle.pin_table.proofs.chamber_of.Goals as goal

pub returns : goal.returns
unfolding chamber_of
returns c = refl
