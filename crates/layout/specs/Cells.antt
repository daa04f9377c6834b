-- The numbers of a cell, its height from one list and its faces from another, and what reading them requires.
use Rattle.std.specs.Prelude.{◌≡◌, List, ℕ, suc, ◌<◌, ℤ, length}
use Rattle.rules.specs.declared.Card.{Card}
use Rattle.rules.specs.Site.{read_state, state_length}
use Rattle.laws.specs.Facts.{Ranges}
use Rattle.layout.specs.declared.cells.Cell.{Cell}

pub record CellPlace (c : Card) (h s : List ℤ) (i j : ℕ) : Type 0 where
  pub card : Ranges c
  pub heights : length h ≡ state_length c
  pub faces : length s ≡ state_length c
  pub column : i < c.columns
  pub row : j < c.rows

unfoldable pub cell_at : Card → (heights faces : List ℤ) → ℕ → ℕ → Cell
cell_at c h s i j = record {
  height = (read_state c h).height i j;
  west = (read_state c s).east i j;
  east = (read_state c s).east (suc i) j;
  south = (read_state c s).north i j;
  north = (read_state c s).north i (suc j);
}
