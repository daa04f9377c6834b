-- `textbook::rise`: both terms and their sum fit in 64 bits, and H' is not 0.
use mir.Syntax.{w64}
use Rattle.rules.specs.Textbook.{textbook_rise}
use Rattle.laws.specs.Numbers.{not_0_is_above}
use Rattle.laws.specs.Exact.{Node, fits, value, divides, result, add, quot, cast}
use Rattle.velocity.proofs.Bounds.{sum-within, pressure-within, ground_within}
use Rattle.velocity.proofs.textbook.rise.Goals as goal

-- what it returns; then that each operation fits
pub returns : goal.returns
unfolding textbook_rise
returns c =
    let terms : Node w64 = let r = c.requires.face in
    add (result c.pressure_term.ensures (pressure-within r) tt) (result c.ground_term.ensures (ground_within r) tt) tt in
    let sum : Node w64 = cast (result c.new_sum.ensures (sum-within c.requires.face) tt) tt in
    value (quot terms sum)

pub overflow_add-terms : goal.overflow_add-terms
overflow_add-terms c =
    let terms : Node w64 = let r = c.requires.face in
    add (result c.pressure_term.ensures (pressure-within r) tt) (result c.ground_term.ensures (ground_within r) tt) tt in
    fits terms

pub overflow_cast-result : goal.overflow_cast-result
overflow_cast-result c =
    let sum : Node w64 = cast (result c.new_sum.ensures (sum-within c.requires.face) tt) tt in
    fits sum

pub nonzero_div-result : goal.nonzero_div-result
nonzero_div-result c =
    let terms : Node w64 = let r = c.requires.face in
    add (result c.pressure_term.ensures (pressure-within r) tt) (result c.ground_term.ensures (ground_within r) tt) tt in
    let sum : Node w64 = cast (result c.new_sum.ensures (sum-within c.requires.face) tt) tt in
    divides terms sum (not_0_is_above sum.z c.requires.wet)
