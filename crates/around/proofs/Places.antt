-- No face is further on than the longest line.
use Prim.Native.Nat.{ℕ, ◌≤◌}
use mathlib.Core.List.{List}
use native.Mathlib.Omega.{arith}
use lib.IntN.{ℤ}
use Rattle.rules.specs.declared.Card.{Card}
use Rattle.layout.specs.declared.ways.Way.{Way}
use Rattle.layout.specs.declared.ways.Way.TheVariants.{East, North}
use Rattle.layout.specs.Ways.{wide, high}
use Rattle.layout.specs.Places.{FacePlace}

module _ {c : Card} {l : List ℤ} {i j : ℕ} where
  pub in_range : (way : Way) → FacePlace c l way i j → (i ≤ 128) × (j ≤ 128)
  unfolding wide high
  in_range East p = (omega arith, omega arith)
  in_range North p = (omega arith, omega arith)
