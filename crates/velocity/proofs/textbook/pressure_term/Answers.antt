-- `pressure_term`: squares of heights, and their difference, fit in 64 bits.
use mir.Syntax.{w64}
use Rattle.rules.specs.Textbook.{pressure, pressure_term}
use Rattle.laws.specs.Exact.{Node, fits, value, mul, sub}
use Rattle.velocity.proofs.Surfaces.{wide_height}
use Rattle.velocity.proofs.textbook.pressure_term.Goals as goal

-- what it returns; then that each operation fits
pub returns : goal.returns
unfolding pressure_term pressure
returns c =
    let square_k : Node w64 = let h = wide_height c.requires.new_k in mul h h tt in
    let square_l : Node w64 = let h = wide_height c.requires.new_l in mul h h tt in
    let difference : Node w64 = sub square_l square_k tt in
    value difference

pub overflow_cast-k : goal.overflow_cast-k
overflow_cast-k c = fits (wide_height c.requires.new_k)

pub overflow_cast-l : goal.overflow_cast-l
overflow_cast-l c = fits (wide_height c.requires.new_l)

pub overflow_mul-result : goal.overflow_mul-result
overflow_mul-result c =
    let square_l : Node w64 = let h = wide_height c.requires.new_l in mul h h tt in
    fits square_l

pub overflow_mul-result-2 : goal.overflow_mul-result-2
overflow_mul-result-2 c =
    let square_k : Node w64 = let h = wide_height c.requires.new_k in mul h h tt in
    fits square_k

pub overflow_sub-result : goal.overflow_sub-result
overflow_sub-result c =
    let square_k : Node w64 = let h = wide_height c.requires.new_k in mul h h tt in
    let square_l : Node w64 = let h = wide_height c.requires.new_l in mul h h tt in
    let difference : Node w64 = sub square_l square_k tt in
    fits difference
