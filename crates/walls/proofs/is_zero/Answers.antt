-- `is_zero`: the test compares bits.
use Rattle.laws.specs.Exact.{zero_test}
use Rattle.walls.proofs.is_zero.Goals as goal

pub returns : goal.returns
returns c = zero_test c.ranges.z
