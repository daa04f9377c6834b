-- `is_bank`: the test for 0 compares bits, and the height fits its word; the order is that of the numbers. `and-true` stands there for the edit `banks_pull`: with
-- `& true` behind it the function is proved, so that `& false` is refused for what it returns.
use mathlib.Core.Bool.{and-true}
use mir.Facts.{to_z-of_z}
use Rattle.rules.specs.Step.{is_bank}
use Rattle.laws.specs.Exact.{zero_test}
use Rattle.velocity.proofs.banks.is_bank.Goals as goal

pub returns : goal.returns
unfolding is_bank
returns c = simp (zero_test c.ranges.height, to_z-of_z c.ranges.surface, to_z-of_z c.ranges.land, and-true)
