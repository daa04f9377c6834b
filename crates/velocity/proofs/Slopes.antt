-- The slope of a rise that a local holds: what the call requires, and what it returned.
use Prim.Native.Nat.{ℕ}
use mathlib.Core.Path.{◌≡◌}
use lib.IntN.{ℤ}
use mir.Syntax.{w64}
use Rattle.rules.specs.Step.{slope}
use Rattle.laws.specs.Exact.{Node, read, result, called, passed}
use Rattle.laws.specs.Sizes.{Within}
use Rattle.face.specs.Ranges.{Time, Side}
use Rattle.velocity.specs.Fits.{InSlope}
use Rattle.velocity.proofs.Bounds.{slope-within}

module _ (rise : Node w64) (small : Within 200000000 rise.z) {dt d : ℕ} (t : Time dt) (s : Side d) where
  pub in_slope : InSlope (read rise) dt d
  in_slope = record { small = passed (Within 200000000) rise small; time = t; side = s }

  abbrev pub sloped : {r : ℤ} → r ≡ slope dt d (read rise) → Node w64
  sloped e = result (called (slope dt d) rise e) (slope-within small t s) tt
