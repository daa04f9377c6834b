-- `new_sum`: two heights fit in 32 bits together.
use mir.Syntax.{w32}
use Rattle.laws.specs.Exact.{Node, fits, value, add}
use Rattle.velocity.proofs.Surfaces.{height}
use Rattle.velocity.proofs.new_sum.Goals as goal

pub returns : goal.returns
returns c =
    let h : Node w32 = let r = c.requires in add (height r.new_k) (height r.new_l) tt in
    value h

pub overflow_add-result : goal.overflow_add-result
overflow_add-result c =
    let h : Node w32 = let r = c.requires in add (height r.new_k) (height r.new_l) tt in
    fits h
