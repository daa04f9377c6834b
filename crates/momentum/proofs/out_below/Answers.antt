-- `out_below`: the sum of two transfers fits, and so does its negation.
use mir.Syntax.{w32}
use Rattle.rules.specs.Step.{out_below}
use Rattle.laws.specs.Exact.{Node, fits, value, int, add, neg}
use Rattle.momentum.proofs.out_below.Goals as goal

pub overflow_add-result : goal.overflow_add-result
overflow_add-result c =
    let sum : Node w32 = let r = c.requires in add (int r.below_k tt) (int r.below_l tt) tt in
    fits sum

pub overflow_sub-result : goal.overflow_sub-result
overflow_sub-result c =
    let sum : Node w32 = let r = c.requires in add (int r.below_k tt) (int r.below_l tt) tt in
    fits (neg sum)

pub returns : goal.returns
unfolding out_below
returns c =
    let sum : Node w32 = let r = c.requires in add (int r.below_k tt) (int r.below_l tt) tt in
    value (neg sum)
