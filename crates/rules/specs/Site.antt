-- Document 01, "Units and ranges": the layout of a site's lists, and the first three checks.
use Rattle.std.specs.Prelude.{ℕ, zero, suc, ◌+◌, ◌*◌, Bool, true, false, ◌&&◌, List, ◌++◌, length, get_or, ℤ, pos, nat_abs, leb, eqb}
use Rattle.std.specs.Int.Signed.{le_z}
use Rattle.rules.specs.declared.Card.{Card}
use Rattle.rules.specs.Grid.{Field, grid, all, all_at, sum_at}

-- ---- The layout. Cell (i, j) is in column i and row j. Its west face is eastward face (i, j), its east face (i + 1, j); its south face is
-- northward face (i, j), its north face (i, j + 1).

-- the heights of the cells, and the velocities of the eastward and the northward faces
pub record Water : Type 0 where
  pub height : Field
  pub east : Field
  pub north : Field

-- how many cells there are, and how many words a state has: heights, then eastward velocities, then northward ones
abbrev pub cells : Card → ℕ
cells c = c.rows * c.columns

unfoldable pub state_length : Card → ℕ
state_length c = c.rows * c.columns + (c.rows * suc c.columns + suc c.rows * c.columns)

-- a ground and a state, read by column and row
unfoldable pub read_ground : Card → List ℤ → Field
read_ground c g i j = get_or g (j * c.columns + i) (pos 0)

unfoldable pub read_state : Card → List ℤ → Water
read_state c s = record {
  height = λ i j. get_or s (j * c.columns + i) (pos 0);
  east = λ i j. get_or s (c.rows * c.columns + (j * suc c.columns + i)) (pos 0);
  north = λ i j. get_or s (c.rows * c.columns + (c.rows * suc c.columns + (j * c.columns + i))) (pos 0);
}

-- and a state written
unfoldable pub write_state : Card → Water → List ℤ
write_state c w = grid c.columns c.rows w.height ++ (grid (suc c.columns) c.rows w.east ++ grid c.columns (suc c.rows) w.north)

-- ---- How much water a state has (document 02, [8]): the sum of all heights

unfoldable pub sum_of_heights : Card → (state : List ℤ) → ℤ
sum_of_heights c s = sum_at c.columns c.rows (read_state c s).height

-- ---- Refusal 1: columns, rows, a side, dt or steps outside its range

abbrev pub within : (low high : ℕ) → ℕ → Bool
within low high n = leb low n && leb n high

unfoldable pub sizes_fit : Card → Bool
sizes_fit c = within 1 128 c.columns && within 1 128 c.rows

unfoldable pub sides_fit : Card → Bool
sides_fit c = within 100000 20000000 c.dx && within 100000 20000000 c.dy

unfoldable pub times_fit : Card → Bool
times_fit c = within 1 1000 c.dt && leb c.steps 10000

unfoldable pub card_fits : Card → Bool
card_fits c = sizes_fit c && sides_fit c && times_fit c

-- ---- Refusal 2: a lent list has the wrong length

unfoldable pub lengths_fit : Card → (land state : List ℤ) → Bool
lengths_fit c g s = eqb (length g) (cells c) && eqb (length s) (state_length c)

-- ---- Refusal 3: a value outside its range, or a wall velocity not 0

abbrev pub ground_fits : ℤ → Bool
ground_fits z = leb (nat_abs z) 50000000

abbrev pub height_fits : ℤ → Bool
height_fits h = le_z (pos 0) h && le_z h (pos 50000000)

abbrev pub speed_fits : ℤ → Bool
speed_fits v = leb (nat_abs v) 20000000

abbrev pub is_zero : ℤ → Bool
is_zero z = eqb (nat_abs z) 0

unfoldable pub grounds_fit : Card → Field → Bool
grounds_fit c g = all_at c.columns c.rows (λ i j. ground_fits (g i j))

unfoldable pub heights_fit : Card → Water → Bool
heights_fit c w = all_at c.columns c.rows (λ i j. height_fits (w.height i j))

unfoldable pub velocities_fit : Card → Water → Bool
velocities_fit c w =
    all_at (suc c.columns) c.rows (λ i j. speed_fits (w.east i j))
    && all_at c.columns (suc c.rows) (λ i j. speed_fits (w.north i j))

unfoldable pub walls_still : Card → Water → Bool
walls_still c w =
    all c.rows (λ j. is_zero (w.east 0 j) && is_zero (w.east c.columns j))
    && all c.columns (λ i. is_zero (w.north i 0) && is_zero (w.north i c.rows))

unfoldable pub values_fit : Card → Field → Water → Bool
values_fit c g w = grounds_fit c g && heights_fit c w && velocities_fit c w && walls_still c w

-- ---- The lowest number that applies

unfoldable pub first_of : (card lengths values : Bool) → ℕ
first_of false l v = 1
first_of true false v = 2
first_of true true false = 3
first_of true true true = 0

-- the first three checks of a card, a ground and a state; `one`, `two` and `three` are what a call asks besides for 1, for 2 and for 3, `true` for nothing.
unfoldable pub check_also : (one two three : Bool) → Card → (land state : List ℤ) → ℕ
check_also one two three c g s = first_of (one && card_fits c) (two && lengths_fit c g s) (three && values_fit c (read_ground c g) (read_state c s))

-- the first three checks alone
unfoldable pub check : Card → (land state : List ℤ) → ℕ
check c g s = check_also true true true c g s

-- ---- Numbers one after the other, and what a call leaves

-- the first number that refuses, of two looked for in this order
unfoldable pub first_refusal : ℕ → ℕ → ℕ
first_refusal zero n = n
first_refusal (suc k) n = suc k

-- what a call leaves where its number is 0, and where it is refused
unfoldable pub if_done {ℓ} : {A : Type ℓ} → (number : ℕ) (done refused : A) → A
if_done zero done refused = done
if_done (suc k) done refused = refused
