-- `new_velocity`: H' is not 0 where it divides; the bounds on A and on the slope keep the difference from wrapping.
use mir.Syntax.{w64}
use Rattle.laws.specs.Exact.{Node, fits, value, int, result, sub, cast}
use Rattle.momentum.proofs.Bounds.{carried-within}
use Rattle.velocity.proofs.Bounds.{sum-within}
use Rattle.velocity.proofs.Quotients.{may_divide, divided}
use Rattle.velocity.proofs.Slopes.{in_slope, sloped}
use Rattle.velocity.proofs.new_velocity.Goals as goal

pub returns : goal.returns
returns c =
    let all : Node w64 = result c.carried.ensures (carried-within c.requires.wet_face.face) tt in
    let sum : Node w64 = cast (result c.new_sum.ensures (sum-within c.requires.wet_face.face) tt) tt in
    let shared : Node w64 = divided all sum c.quotient.ensures in
    let pulled : Node w64 = let p = c.requires.slope in sloped (int p.small tt) p.small p.time p.side c.slope.ensures in
    let new : Node w64 = sub shared pulled tt in
    value new

pub overflow_cast-new_sum : goal.overflow_cast-new_sum
overflow_cast-new_sum c =
    let sum : Node w64 = cast (result c.new_sum.ensures (sum-within c.requires.wet_face.face) tt) tt in
    fits sum

pub quotient-requires : goal.quotient-requires
quotient-requires c =
    let all : Node w64 = result c.carried.ensures (carried-within c.requires.wet_face.face) tt in
    let sum : Node w64 = cast (result c.new_sum.ensures (sum-within c.requires.wet_face.face) tt) tt in
    may_divide all sum c.requires.wet_face.wet

pub slope-requires : goal.slope-requires
slope-requires c = let p = c.requires.slope in in_slope (int p.small tt) p.small p.time p.side

pub overflow_sub-result : goal.overflow_sub-result
overflow_sub-result c =
    let all : Node w64 = result c.carried.ensures (carried-within c.requires.wet_face.face) tt in
    let sum : Node w64 = cast (result c.new_sum.ensures (sum-within c.requires.wet_face.face) tt) tt in
    let shared : Node w64 = divided all sum c.quotient.ensures in
    let pulled : Node w64 = let p = c.requires.slope in sloped (int p.small tt) p.small p.time p.side c.slope.ensures in
    let new : Node w64 = sub shared pulled tt in
    fits new
