-- The marks of a state: one for each row of cells, whether it is still; and what making and reading them requires.
use Rattle.std.specs.Prelude.{ℕ, ◌-◌, ◌≤◌, ◌<◌, ◌≡◌, Bool, false, cond, ◌&&◌, List, ℤ, length, get_or}
use Rattle.rules.specs.declared.Card.{Card}
use Rattle.rules.specs.Site.{read_state, state_length}
use Rattle.laws.specs.Facts.{Ranges}
use Rattle.laws.specs.Lines.{is_end}
use Rattle.layout.specs.declared.ways.Way.{Way}
use Rattle.layout.specs.declared.ways.Way.TheVariants.{East, North}
use Rattle.layout.specs.Ways.{high}
use Rattle.still.specs.Rows.{cells_still}

pub record Marked (c : Card) (s : List ℤ) (marks : List Bool) : Type 0 where
  pub room : c.rows ≤ length marks
  pub is : (j : ℕ) → j < c.rows → get_or marks j false ≡ cells_still c (read_state c s) j

-- whether the cells on both sides of row j of the faces that point this way are marked; a row of walls parts no cells
unfoldable pub both_marked : Card → Way → List Bool → ℕ → Bool
both_marked c East marks j = get_or marks j false
both_marked c North marks j = cond (is_end c.rows j) false (get_or marks (j - 1) false && get_or marks j false)

-- a row of the faces that point this way, in a list that has the layout of a state
pub record FaceRow (c : Card) (s : List ℤ) (way : Way) (j : ℕ) : Type 0 where
  pub card : Ranges c
  pub long : length s ≡ state_length c
  pub row : j < high c way

-- a row of cells
pub record CellRow (c : Card) (s : List ℤ) (j : ℕ) : Type 0 where
  pub card : Ranges c
  pub long : length s ≡ state_length c
  pub row : j < c.rows

-- room for the marks of a state
pub record MarksRoom (c : Card) (s : List ℤ) (marks : List Bool) : Type 0 where
  pub card : Ranges c
  pub long : length s ≡ state_length c
  pub room : c.rows ≤ length marks

-- a row of faces, and marks for every row of cells
pub record RowIn (c : Card) (way : Way) (marks : List Bool) (j : ℕ) : Type 0 where
  pub room : c.rows ≤ length marks
  pub row : j < high c way
