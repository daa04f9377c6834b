-- `no_water`: the test for 0 compares bits, and H' fits its word.
use mathlib.Core.Path.{◌∙◌}
use mir.Syntax.{w32}
use Rattle.laws.specs.Exact.{Node, fits, result, zero_test}
use Rattle.velocity.proofs.Bounds.{sum-within}
use Rattle.velocity.proofs.no_water.Goals as goal

pub returns : goal.returns
returns c =
    let h : Node w32 = result c.new_sum.ensures (sum-within c.requires) tt in
    zero_test (fits h) ∙ rw c.new_sum.ensures
