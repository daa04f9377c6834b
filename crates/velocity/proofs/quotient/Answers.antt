-- `quotient`: 0 divided is 0, and else `/` cuts towards zero.
use mir.Syntax.{w64}
use Rattle.laws.specs.Exact.{Node, value, divides, int, quot}
use Rattle.velocity.proofs.Quotients.{of_zero}
use Rattle.velocity.proofs.quotient.Goals as goal

pub returns-then-a-eq0 : goal.returns-then-a-eq0
returns-then-a-eq0 c =
    let a : Node w64 = int c.requires.top tt in
    search (of_zero a c.args.b)

pub returns : goal.returns
returns c =
    let a : Node w64 = int c.requires.top tt in
    let b : Node w64 = int c.requires.below tt in
    value (quot a b)

pub nonzero_div-result : goal.nonzero_div-result
nonzero_div-result c =
    let a : Node w64 = int c.requires.top tt in
    let b : Node w64 = int c.requires.below tt in
    divides a b c.requires.divisor
