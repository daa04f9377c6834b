-- `slope`: the products fit in 64 bits, the divisor is above 0, and `/` cuts towards zero as S does; without a rise there is no slope.
use mathlib.Core.Path.{sym}
use native.Mathlib.Omega.{arith}
use mir.Syntax.{w64}
use Rattle.rules.specs.Step.{slope}
use Rattle.laws.specs.Exact.{Node, fits, value, divides, is_zero_lem, int, nat, lit, mul, quot}
use Rattle.laws.specs.Velocity.{level}
use Rattle.velocity.proofs.slope.Goals as goal

-- what it returns; then that each operation fits
pub returns-then-rise-eq0 : goal.returns-then-rise-eq0
returns-then-rise-eq0 c =
    let rise : Node w64 = int c.requires.small tt in
    sym (level _ _ (is_zero_lem rise c.if-rise-eq0.true))

pub returns : goal.returns
unfolding slope
returns c =
    let rise : Node w64 = int c.requires.small tt in
    let gravity : Node w64 = mul (lit 9806650 tt) (nat c.requires.time.high tt) tt in
    let top : Node w64 = mul gravity rise tt in
    let below : Node w64 = mul (lit 1000 tt) (nat c.requires.side.high tt) tt in
    value (quot top below)

pub overflow_mul-pull : goal.overflow_mul-pull
overflow_mul-pull c =
    let gravity : Node w64 = mul (lit 9806650 tt) (nat c.requires.time.high tt) tt in
    fits gravity

pub overflow_mul-pull-2 : goal.overflow_mul-pull-2
overflow_mul-pull-2 c =
    let rise : Node w64 = int c.requires.small tt in
    let gravity : Node w64 = mul (lit 9806650 tt) (nat c.requires.time.high tt) tt in
    let top : Node w64 = mul gravity rise tt in
    fits top

pub overflow_mul-below : goal.overflow_mul-below
overflow_mul-below c =
    let below : Node w64 = mul (lit 1000 tt) (nat c.requires.side.high tt) tt in
    fits below

pub nonzero_div-result : goal.nonzero_div-result
nonzero_div-result c =
    let rise : Node w64 = int c.requires.small tt in
    let gravity : Node w64 = mul (lit 9806650 tt) (nat c.requires.time.high tt) tt in
    let top : Node w64 = mul gravity rise tt in
    let below : Node w64 = mul (lit 1000 tt) (nat c.requires.side.high tt) tt in
    divides top below (omega (arith, c.requires.side.low))
