-- `out_above`: the sum of two transfers fits.
use mir.Syntax.{w32}
use Rattle.rules.specs.Step.{out_above}
use Rattle.laws.specs.Exact.{Node, fits, value, int, add}
use Rattle.momentum.proofs.out_above.Goals as goal

-- what it returns; then that each operation fits
pub returns : goal.returns
unfolding out_above
returns c =
    let sum : Node w32 = let r = c.requires in add (int r.above_k tt) (int r.above_l tt) tt in
    value sum

pub overflow_add-result : goal.overflow_add-result
overflow_add-result c =
    let sum : Node w32 = let r = c.requires in add (int r.above_k tt) (int r.above_l tt) tt in
    fits sum
