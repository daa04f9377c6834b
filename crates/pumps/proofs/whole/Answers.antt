-- `whole`: the test is the definition's.
use mathlib.Core.Path.{refl}
use Rattle.rules.specs.Pumps.{whole_pumps}
use Rattle.pumps.proofs.whole.Goals as goal

pub returns : goal.returns
unfolding whole_pumps
returns c = refl
