-- The rows of a raster: their lengths, and that row by row they are the text of the values as it is defined.
use Prim.Native.Nat.{ℕ, zero, suc, ◌+◌, ◌*◌, ◌-◌, ◌≤◌, ◌<◌}
use mathlib.Core.Path.{◌≡◌, refl, sym, ap, ap₂, ◌∙◌}
use mathlib.Core.Bool.{cond}
use mathlib.Core.List.{List, [], ◌∷◌, ◌++◌, append-nil, append_assoc}
use native.Mathlib.Omega.{arith}
use native.Mathlib.Nat.{add-zero, add-suc, zero-mul, suc-mul}
use native.Mathlib.Numerals.{add-one}
use lib.Arith.{digits_mod, digits_lt}
use lib.IntN.{ℤ, pos, nat_abs}
use lib.ListN.{length, get_or, length-append}
use lib.Dec.{eqb}
use Rattle.rules.specs.declared.Card.{Card}
use Rattle.rules.specs.Site.{cells, read_ground}
use Rattle.rules.specs.Raster.{signed_metres, behind_value, value_texts, rows_turned}
use mir.Syntax.{w32}
use mir.Val.{to_z, of_z}
use mir.Facts.{to_z-of_z}
use Rattle.laws.specs.Exact.{sfits}
use Rattle.laws.specs.Facts.{card_facts}
use Rattle.raster_laws.specs.Turned.{turned_at}
use Rattle.raster_writer.specs.Lines.{behind_cell, cell_text, row_text, row_texts, Cell}
use Rattle.raster_writer.proofs.Loops.{piece_within}
use Rattle.raster_writer.proofs.Lengths.{signed_most}

module _ (c : Card) (g : List ℤ) where
  -- ---- one value more, and one row more

  pub row_none : (j : ℕ) → row_text c g j 0 ≡ []
  unfolding row_text
  row_none j = refl

  pub row_more : (j i : ℕ) → row_text c g j (i + 1) ≡ row_text c g j i ++ cell_text c g i j
  unfolding row_text
  row_more j i = ap (row_text c g j) (add-one i)

  pub rows_none : row_texts c g 0 ≡ []
  unfolding row_texts
  rows_none = refl

  pub rows_more : (n : ℕ) → row_texts c g (n + 1) ≡ row_texts c g n ++ row_text c g (c.rows - 1 - n) c.columns
  unfolding row_texts
  rows_more n = ap (row_texts c g) (add-one n)

  -- ---- lengths: what is laid first is not longer than all

  pub length_row : (j i : ℕ) → length (row_text c g j (i + 1)) ≡ length (row_text c g j i) + length (cell_text c g i j)
  length_row j i = ap length (row_more j i) ∙ length-append (row_text c g j i) (cell_text c g i j)

  pub length_rows : (n : ℕ) → length (row_texts c g (n + 1)) ≡ length (row_texts c g n) + length (row_text c g (c.rows - 1 - n) c.columns)
  length_rows n = ap length (rows_more n) ∙ length-append (row_texts c g n) (row_text c g (c.rows - 1 - n) c.columns)

  pub row_within : (j i n : ℕ) → i < n → length (row_text c g j i) + length (cell_text c g i j) ≤ length (row_text c g j n)
  row_within j i n h = piece_within (row_text c g j) (λ i. cell_text c g i j) (length_row j) i n h

  pub rows_within : (i n : ℕ) → i < n → length (row_texts c g i) + length (row_text c g (c.rows - 1 - i) c.columns) ≤ length (row_texts c g n)
  rows_within i n h = piece_within (row_texts c g) (λ n. row_text c g (c.rows - 1 - n) c.columns) length_rows i n h

  -- ---- one cell

  pub length_cell : (i j : ℕ) → length (cell_text c g i j) ≡ length (signed_metres (read_ground c g i j)) + 1
  unfolding cell_text
  length_cell i j = length-append (signed_metres (read_ground c g i j)) (behind_cell c.columns i ∷ [])

  module _ {i j : ℕ} (k : Cell c g i j) where
    place_inside : j * c.columns + i < cells c
    place_inside = digits_lt k.row k.column

    pub cell_small : nat_abs (read_ground c g i j) ≤ 50000000
    unfolding read_ground
    cell_small = k.checked.small (j * c.columns + i) place_inside

    pub place_few : j * c.columns + i < 16384
    place_few = omega (arith, place_inside, (card_facts c k.checked.card).cells_high)

    pub place_long : j * c.columns + i < length g
    place_long = omega (arith, place_inside, k.checked.long)

    -- a value as the code reads it
    pub cell_read : to_z w32 (of_z w32 (get_or g (j * c.columns + i) (pos 0))) ≡ read_ground c g i j
    unfolding read_ground
    cell_read = to_z-of_z (sfits w32 {z = get_or g (j * c.columns + i) (pos 0)} {N = 50000000} (record { size = cell_small }) tt)

    pub cell_most : length (cell_text c g i j) ≤ 11
    cell_most = omega (arith, length_cell i j, signed_most (read_ground c g i j) cell_small)

  -- ---- row by row it is the text of the values

  abbrev values : List ℤ
  values = rows_turned c.columns c.rows g

  value_text : (n i : ℕ) → n < c.rows → i < c.columns
      → signed_metres (get_or values (n * c.columns + i) (pos 0)) ++ (behind_value c.columns (n * c.columns + i) ∷ []) ≡ cell_text c g i (c.rows - 1 - n)
  unfolding cell_text read_ground behind_value
  value_text n i hn hi =
      ap₂ (λ (z : ℤ) (k : ℕ). signed_metres z ++ (cond (eqb (suc k) c.columns) 10 32 ∷ []))
      (turned_at c.columns c.rows g i n hi hn)
      (digits_mod n hi)

  along_row : (n i : ℕ) → n < c.rows → i ≤ c.columns
      → value_texts c.columns values (n * c.columns + i) ≡ value_texts c.columns values (n * c.columns) ++ row_text c g (c.rows - 1 - n) i
  unfolding row_text value_texts
  along_row n zero hn hi = ap (value_texts c.columns values) (add-zero (n * c.columns)) ∙ sym (append-nil (value_texts c.columns values (n * c.columns)))
  along_row n (suc i) hn hi =
      ap (value_texts c.columns values) (add-suc (n * c.columns) i)
      ∙ ap₂ ◌++◌ (along_row n i hn (omega arith)) (value_text n i hn hi)
      ∙ append_assoc (value_texts c.columns values (n * c.columns)) (row_text c g (c.rows - 1 - n) i) (cell_text c g i (c.rows - 1 - n))

  by_rows : (n : ℕ) → n ≤ c.rows → value_texts c.columns values (n * c.columns) ≡ row_texts c g n
  unfolding row_texts value_texts
  by_rows zero h = ap (value_texts c.columns values) (zero-mul c.columns)
  by_rows (suc n) h =
      ap (value_texts c.columns values) (suc-mul n c.columns)
      ∙ along_row n c.columns h (omega arith)
      ∙ ap (λ (t : List ℕ). t ++ row_text c g (c.rows - 1 - n) c.columns) (by_rows n (omega arith))

  pub all_rows : row_texts c g c.rows ≡ value_texts c.columns values (cells c)
  all_rows = sym (by_rows c.rows (omega arith))
