-- A still cell keeps the step limit.
use Prim.Native.Nat.{ℕ}
use mathlib.Core.Path.{◌≡◌}
use mathlib.Core.Bool.{true}
use Rattle.rules.specs.declared.Card.{Card}
use Rattle.rules.specs.Site.{Water}
use Rattle.rules.specs.Step.{within_limit}
use Rattle.laws.specs.Still.{limit_still}
use Rattle.layout.specs.declared.ways.Way.TheVariants.{East, North}
use Rattle.layout.specs.Ways.{speeds, forth}
use Rattle.layout.proofs.Pointing.{Cell}
use Rattle.still.specs.Rows.{CellsStill}
use Rattle.still.proofs.Rows.{near_still, far_still}

pub still_within : {c : Card} {w : Water} {j : ℕ} → CellsStill c w j → (i : ℕ) → Cell c i j → within_limit c w i j ≡ true
unfolding speeds forth
still_within {c} r i h = limit_still c (record { west = near_still r h East; east = far_still r h East; south = near_still r h North; north = far_still r h North })
