-- `mean_height`: two heights fit in 64 bits together. `shifted_by_0` stands there for the edit `textbook_ground_term_not_doubled`: with `>> 0` behind it the function
-- is proved, so that `>> 1` is refused for what it returns.
use mathlib.Core.Path.{◌≡◌, ap, ◌∙◌}
use native.Mathlib.Nat.{div-one}
use lib.IntN.{ℤ, pos, negsuc}
use lib.Signed.{shr_z}
use mir.Syntax.{w64}
use mir.Val.{to_z, of_z}
use Rattle.laws.specs.Exact.{Node, read, fits, value, add, result}
use Rattle.velocity.proofs.Surfaces.{wide_height}
use Rattle.velocity.proofs.textbook.mean_height.Goals as goal

shifted_by_0 : (t : Node w64) → to_z w64 (of_z w64 (shr_z (read t) 1)) ≡ t.z
shifted_by_0 t = value {w = w64} (result {w = w64} (none (read t) ∙ value t) (record { size = t.small }) t.room)
  where
    none : (z : ℤ) → shr_z z 1 ≡ z
    none (pos n) = ap pos (div-one n)
    none (negsuc n) = ap negsuc (div-one n)

-- what it returns; then that each operation fits
pub returns : goal.returns
returns c =
    let mean : Node w64 = let r = c.requires in add (wide_height r.new_k) (wide_height r.new_l) tt in
    search (value mean, shifted_by_0 mean)

pub overflow_cast-hk : goal.overflow_cast-hk
overflow_cast-hk c = fits (wide_height c.requires.new_k)

pub overflow_cast-hl : goal.overflow_cast-hl
overflow_cast-hl c = fits (wide_height c.requires.new_l)

pub overflow_add-result : goal.overflow_add-result
overflow_add-result c =
    let mean : Node w64 = let r = c.requires in add (wide_height r.new_k) (wide_height r.new_l) tt in
    fits mean
