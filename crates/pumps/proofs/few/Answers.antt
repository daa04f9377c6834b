-- `few`: the test is the definition's.
use mathlib.Core.Path.{refl}
use Rattle.rules.specs.Pumps.{few_pumps}
use Rattle.pumps.proofs.few.Goals as goal

pub returns : goal.returns
unfolding few_pumps
returns c = refl
