-- `dry_bank`: both surfaces fit in 32 bits, and each cell is tested beside the other.
use mathlib.Core.Path.{◌≡◌, ◌∙◌, ap₂}
use mathlib.Core.Bool.{◌||◌, Bool}
use mir.Syntax.{w32}
use Rattle.rules.specs.Step.{is_bank, dry_bank}
use Rattle.laws.specs.Exact.{Node, read, fits, value}
use Rattle.velocity.proofs.Surfaces.{height, land, surface}
use Rattle.velocity.proofs.banks.dry_bank.Goals as goal

-- what the test of one cell returned, of the numbers that its locals hold
told : (h z s : Node w32) {r : Bool} → r ≡ is_bank (read h) (read z) (read s) → r ≡ is_bank h.z z.z s.z
told h z s e = e ∙ rw (value h, value z, value s)

-- K beside L, and L beside K
pub returns : goal.returns
unfolding dry_bank
returns c =
    let r = c.requires in
    ap₂ ◌||◌ (told (height r.new_k) (land r.ground_k) (surface r.new_l r.ground_l) c.is_bank.ensures)
    (told (height r.new_l) (land r.ground_l) (surface r.new_k r.ground_k) c.is_bank-2.ensures)

-- that each sum fits
pub overflow_add-surface_k : goal.overflow_add-surface_k
overflow_add-surface_k c = let r = c.requires in fits (surface r.new_k r.ground_k)

pub overflow_add-surface_l : goal.overflow_add-surface_l
overflow_add-surface_l c = let r = c.requires in fits (surface r.new_l r.ground_l)
