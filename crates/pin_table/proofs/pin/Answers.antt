-- `pin`: of a known crew and a chamber it stays far below 2 ^ 32.
use mathlib.Core.Path.{refl}
use Rattle.pins_rules.specs.Table.{pin as table_pin}
use Rattle.pin_table.proofs.pin.Goals as goal

pub returns : goal.returns
unfolding table_pin
returns c = refl
