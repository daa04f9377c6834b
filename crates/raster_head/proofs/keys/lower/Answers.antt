-- `lower`: a capital letter is moved up by 32.
use native.Mathlib.Omega.{arith}
use Rattle.std.proofs.lemmas.Grind.{common_steps}
use Rattle.std.proofs.lemmas.Bool.Decides.{nat_tests}
use Rattle.rules.specs.Raster.{lower}
use Rattle.raster_head.proofs.keys.lower.Goals as goal

pub returns : goal.returns
unfolding lower
returns c = grind (arith, common_steps, nat_tests, c.to_ascii_lowercase.ensures.cases)
