-- `rise`: both surfaces and their difference fit in 32 bits.
use mir.Syntax.{w32}
use Rattle.rules.specs.Step.{rise as Step-rise}
use Rattle.laws.specs.Exact.{Node, fits, value, sub}
use Rattle.velocity.proofs.Surfaces.{surface}
use Rattle.velocity.proofs.rise.Goals as goal

pub returns : goal.returns
unfolding Step-rise
returns c =
    let in_l : Node w32 = let r = c.requires in surface r.new_l r.ground_l in
    let in_k : Node w32 = let r = c.requires in surface r.new_k r.ground_k in
    let difference : Node w32 = sub in_l in_k tt in
    value difference

pub overflow_add-result : goal.overflow_add-result
overflow_add-result c =
    let in_l : Node w32 = let r = c.requires in surface r.new_l r.ground_l in
    fits in_l

pub overflow_add-result-2 : goal.overflow_add-result-2
overflow_add-result-2 c =
    let in_k : Node w32 = let r = c.requires in surface r.new_k r.ground_k in
    fits in_k

pub overflow_sub-result : goal.overflow_sub-result
overflow_sub-result c =
    let in_l : Node w32 = let r = c.requires in surface r.new_l r.ground_l in
    let in_k : Node w32 = let r = c.requires in surface r.new_k r.ground_k in
    let difference : Node w32 = sub in_l in_k tt in
    fits difference
