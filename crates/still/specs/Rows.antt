-- Still rows: of faces that have no velocity, and of cells whose faces have none.
use Rattle.std.specs.Prelude.{ℕ, suc, ◌≡◌, Bool, true, ◌&&◌}
use Rattle.rules.specs.declared.Card.{Card}
use Rattle.rules.specs.Grid.{all}
use Rattle.rules.specs.Site.{Water, is_zero}
use Rattle.layout.specs.declared.ways.Way.{Way}
use Rattle.layout.specs.declared.ways.Way.TheVariants.{East, North}
use Rattle.layout.specs.Ways.{wide, back, speeds, across}

-- every face of row j that points this way has velocity 0
unfoldable pub row_still : Card → Water → Way → ℕ → Bool
row_still c w way j = all (wide c way) (λ i. is_zero (speeds w way i j))

-- every face of every cell of row j has
unfoldable pub cells_still : Card → Water → ℕ → Bool
cells_still c w j = row_still c w East j && row_still c w North j && row_still c w North (suc j)

pub record CellsStill (c : Card) (w : Water) (j : ℕ) : Type 0 where
  pub cells : cells_still c w j ≡ true

-- both the cells K and the cells L of the faces of row j that point this way
pub record BothStill (c : Card) (w : Water) (way : Way) (j : ℕ) : Type 0 where
  pub row_k : CellsStill c w (back (across way) j)
  pub row_l : CellsStill c w j
