-- `brought`: flow in is the positive part of the flow out turned round, and its product with a velocity fits in 64 bits.
use mir.Syntax.{w32, w64}
use Rattle.rules.specs.Step.{positive, brought}
use Rattle.laws.specs.Sizes.{within-neg}
use Rattle.laws.specs.Exact.{Node, fits, value, called, int, result, neg, mul, cast}
use Rattle.momentum.proofs.Bounds.{positive-within}
use Rattle.momentum.proofs.brought.Goals as goal

-- what it returns; then that each operation fits
pub returns : goal.returns
unfolding brought
returns c =
    let back : Node w32 = neg (int c.requires.flow tt) in
    let enters : Node w64 = cast (result (called positive back c.positive.ensures) (positive-within (within-neg c.requires.flow)) tt) tt in
    let v : Node w64 = cast (int c.requires.speed tt) tt in
    let all : Node w64 = mul enters v tt in
    value all

pub overflow_sub-out : goal.overflow_sub-out
overflow_sub-out c =
    let back : Node w32 = neg (int c.requires.flow tt) in
    fits back

pub overflow_cast-result : goal.overflow_cast-result
overflow_cast-result c =
    let back : Node w32 = neg (int c.requires.flow tt) in
    let enters : Node w64 = cast (result (called positive back c.positive.ensures) (positive-within (within-neg c.requires.flow)) tt) tt in
    fits enters

pub overflow_cast-result-2 : goal.overflow_cast-result-2
overflow_cast-result-2 c =
    let v : Node w64 = cast (int c.requires.speed tt) tt in
    fits v

pub overflow_mul-result : goal.overflow_mul-result
overflow_mul-result c =
    let back : Node w32 = neg (int c.requires.flow tt) in
    let enters : Node w64 = cast (result (called positive back c.positive.ensures) (positive-within (within-neg c.requires.flow)) tt) tt in
    let v : Node w64 = cast (int c.requires.speed tt) tt in
    let all : Node w64 = mul enters v tt in
    fits all
