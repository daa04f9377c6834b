-- `pump_at`: the pump's two words.
use Rattle.std.proofs.Common.{rules}
use Rattle.rules.specs.Pumps.{pump_at}
use Rattle.pumps.proofs.pump_at.Goals as goal

pub returns : goal.returns
unfolding pump_at
returns c = search rules
