-- `ground_term`: the mean height, the difference of two land levels, and their product fit in 64 bits.
use mir.Syntax.{w64}
use Rattle.rules.specs.Textbook.{ground_term}
use Rattle.laws.specs.Exact.{Node, fits, value, result, sub, mul}
use Rattle.velocity.proofs.Bounds.{sum-within}
use Rattle.velocity.proofs.Surfaces.{wide_ground}
use Rattle.velocity.proofs.textbook.ground_term.Goals as goal

-- what it returns; then that each operation fits
pub returns : goal.returns
unfolding ground_term
returns c =
    let mean : Node w64 = result c.mean_height.ensures (sum-within c.requires) tt in
    let difference : Node w64 = let r = c.requires in sub (wide_ground r.ground_l) (wide_ground r.ground_k) tt in
    let term : Node w64 = mul mean difference tt in
    value term

pub overflow_cast-zk : goal.overflow_cast-zk
overflow_cast-zk c = fits (wide_ground c.requires.ground_k)

pub overflow_cast-zl : goal.overflow_cast-zl
overflow_cast-zl c = fits (wide_ground c.requires.ground_l)

pub overflow_sub-result : goal.overflow_sub-result
overflow_sub-result c =
    let difference : Node w64 = let r = c.requires in sub (wide_ground r.ground_l) (wide_ground r.ground_k) tt in
    fits difference

pub overflow_mul-result : goal.overflow_mul-result
overflow_mul-result c =
    let mean : Node w64 = result c.mean_height.ensures (sum-within c.requires) tt in
    let difference : Node w64 = let r = c.requires in sub (wide_ground r.ground_l) (wide_ground r.ground_k) tt in
    let term : Node w64 = mul mean difference tt in
    fits term
