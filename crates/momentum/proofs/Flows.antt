-- A flow over a dual edge in the code: a call computes it, and its part out of the face's cell and its part in are handed to a second call.
use mathlib.Core.Path.{◌≡◌, ◌∙◌}
use lib.IntN.{ℤ}
use mir.Syntax.{w32, w64}
use mir.Val.{to_z, of_z}
use Rattle.rules.specs.Step.{positive, brought}
use Rattle.laws.specs.Sizes.{Within}
use Rattle.laws.specs.Exact.{Node, int, result, both, called, within}
use Rattle.face.specs.Ranges.{Speed}
use Rattle.momentum.specs.Fits.{Flow}
use Rattle.momentum.proofs.Bounds.{positive-within, brought-within}

-- r is the flow that the first call returned
module _ {out r : ℤ} (h : Within 100000000 out) (e : r ≡ out) where
  abbrev flow : Node w32
  flow = result e h tt

  -- what `positive` returned for it
  abbrev pub outward : {s : ℤ} → s ≡ positive (to_z w32 (of_z w32 r)) → Node w32
  outward g = result (called positive flow g) (positive-within h) tt

  module _ {v : ℤ} (k : Speed v) where
    -- what `brought` requires of it, and what it returned for it
    pub handed : Flow (to_z w32 (of_z w32 r)) (to_z w32 (of_z w32 v))
    handed = record { flow = within flow; speed = within (int {w = w32} k tt) }

    abbrev pub inward : {s : ℤ} → s ≡ brought (to_z w32 (of_z w32 r)) (to_z w32 (of_z w32 v)) → Node w64
    inward g = result (g ∙ both brought flow (int k tt)) (brought-within h k) tt
