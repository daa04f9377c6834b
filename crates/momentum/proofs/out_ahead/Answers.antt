-- `out_ahead`: the sum of two transfers fits.
use mir.Syntax.{w32}
use Rattle.rules.specs.Step.{out_ahead}
use Rattle.laws.specs.Exact.{Node, fits, value, int, add}
use Rattle.momentum.proofs.out_ahead.Goals as goal

pub overflow_add-result : goal.overflow_add-result
overflow_add-result c =
    let sum : Node w32 = let r = c.requires in add (int r.own tt) (int r.ahead tt) tt in
    fits sum

pub returns : goal.returns
unfolding out_ahead
returns c =
    let sum : Node w32 = let r = c.requires in add (int r.own tt) (int r.ahead tt) tt in
    value sum
