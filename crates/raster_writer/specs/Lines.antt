-- The text of a raster's values row by row, as the writer lays it: what its functions promise each other, and what they may rest on.
use Rattle.std.specs.Prelude.{ℕ, zero, suc, ◌-◌, ◌≤◌, ◌<◌, ◌≡◌, true, cond, List, [], ◌∷◌, ◌++◌, ℤ, pos, negsuc, nat_abs, length, get_or, eqb}
use Rattle.rules.specs.declared.Card.{Card}
use Rattle.rules.specs.Site.{cells, read_ground, card_fits}
use Rattle.rules.specs.Raster.{signed_metres}

-- a minus in front of a value below 0
abbrev pub minus_text : ℤ → List ℕ
minus_text (pos n) = []
minus_text (negsuc n) = 45 ∷ []

-- what stands behind a cell's value, in column i
abbrev pub behind_cell : (columns i : ℕ) → ℕ
behind_cell columns i = cond (eqb (suc i) columns) 10 32

module _ (c : Card) (g : List ℤ) where
  unfoldable pub cell_text : (i j : ℕ) → List ℕ
  cell_text i j = signed_metres (read_ground c g i j) ++ (behind_cell c.columns i ∷ [])

  -- the first n values of row j
  unfoldable pub row_text : (j n : ℕ) → List ℕ
  row_text j zero = []
  row_text j (suc n) = row_text j n ++ cell_text n j

  -- the first n rows from the north
  unfoldable pub row_texts : (n : ℕ) → List ℕ
  row_texts zero = []
  row_texts (suc n) = row_texts n ++ row_text (c.rows - 1 - n) c.columns

-- a ground whose card, length and values were checked
pub record Checked (c : Card) (g : List ℤ) : Type 0 where
  pub card : card_fits c ≡ true
  pub long : length g ≡ cells c
  pub small : (k : ℕ) → k < cells c → nat_abs (get_or g k (pos 0)) ≤ 50000000

-- a row of it, and a cell
pub record Row (c : Card) (g : List ℤ) (j : ℕ) : Type 0 where
  pub checked : Checked c g
  pub row : j < c.rows

pub record Cell (c : Card) (g : List ℤ) (i j : ℕ) : Type 0 where
  pub checked : Checked c g
  pub row : j < c.rows
  pub column : i < c.columns
