-- Where the faces of one way stand in a state, what is read there, and the cells beside an inner one.
use mathlib.Core.Path.{◌≡◌, refl}
use mathlib.Core.Bool.{false}
use mathlib.Core.List.{List}
use Prim.Native.Nat.{ℕ, ◌+◌, ◌*◌, ◌≤◌, ◌<◌}
use native.Mathlib.Numerals.{add-one}
use native.Mathlib.Omega.{arith}
use lib.IntN.{ℤ, pos}
use lib.ListN.{get_or}
use Rattle.rules.specs.declared.Card.{Card}
use Rattle.rules.specs.Site.{state_length, read_state}
use Rattle.laws.specs.Places.{east_in, north_in, east_read, north_read}
use Rattle.laws.specs.Lines.{no_end}
use Rattle.layout.specs.declared.ways.Way.{Way}
use Rattle.layout.specs.declared.ways.Way.TheVariants.{East, North}
use Rattle.layout.specs.Ways.{across, wide, high, first, is_wall, back, forth, speeds}
use Rattle.layout.specs.Places.{FaceIn}

pub face_in : (c : Card) (way : Way) {n i j : ℕ} → n ≡ state_length c → FaceIn c way i j → first c way + (j * wide c way + i) < n
unfolding wide high first
face_in c East {n} {i} {j} e f = let h : i ≤ c.columns = omega (arith, f.column) in omega (arith, east_in c e h f.row)
face_in c North {n} {i} {j} e f = let h : j ≤ c.rows = omega (arith, f.row) in omega (arith, north_in c e f.column h)

pub face_read : (c : Card) (s : List ℤ) (way : Way) (i j : ℕ) → get_or s (first c way + (j * wide c way + i)) (pos 0) ≡ speeds (read_state c s) way i j
unfolding wide first speeds
face_read c s East i j = rw (← add-one) (east_read c s i j)
face_read c s North i j = rw (← add-one) (north_read c s i j)

-- the way across the way across, and which way crosses which
pub across_across : (way : Way) → across (across way) ≡ way
across_across East = refl
across_across North = refl

pub across_east : (way : Way) → across way ≡ East → way ≡ North
across_east East e = cc
across_east North e = refl

pub across_north : (way : Way) → across way ≡ North → way ≡ East
across_north East e = refl
across_north North e = cc

-- back and forth again
pub back_forth : (way : Way) (n : ℕ) → (way ≡ East → 0 < n) → forth way (back way n) ≡ n
unfolding back forth
back_forth East n h = let k : 0 < n = h refl in omega arith
back_forth North n h = refl

pub back_forth_row : (way : Way) (n : ℕ) → (way ≡ North → 0 < n) → forth (across way) (back (across way) n) ≡ n
unfolding back forth
back_forth_row East n h = refl
back_forth_row North n h = let k : 0 < n = h refl in omega arith

-- a cell, and its near and its far face
pub record Cell (c : Card) (i j : ℕ) : Type 0 where
  pub column : i < c.columns
  pub row : j < c.rows

module _ {c : Card} {i j : ℕ} where
  pub near_in : (way : Way) → Cell c i j → FaceIn c way i j
  unfolding wide high
  near_in East k = record { column = omega arith; row = omega arith }
  near_in North k = record { column = omega arith; row = omega arith }

  pub far_in : (way : Way) → Cell c i j → FaceIn c way (forth way i) (forth (across way) j)
  unfolding wide high forth
  far_in East k = record { column = omega arith; row = omega arith }
  far_in North k = record { column = omega arith; row = omega arith }

-- cells K and L of an inner face
pub record Beside (c : Card) (way : Way) (i j : ℕ) : Type 0 where
  pub back_east : way ≡ East → 0 < i
  pub back_north : way ≡ North → 0 < j
  pub column_k : back way i < c.columns
  pub row_k : back (across way) j < c.rows
  pub column_l : i < c.columns
  pub row_l : j < c.rows

module _ (c : Card) where
  pub beside : (way : Way) (i j : ℕ) → FaceIn c way i j → is_wall c way i j ≡ false → Beside c way i j
  unfolding wide high is_wall back
  beside East i j f e =
      let k = no_end c.columns i e in
      record { back_east = λ t. k.low; back_north = λ t. cc; column_k = omega (arith, f.column); row_k = f.row; column_l = omega (arith, f.column); row_l = f.row }
  beside North i j f e =
      let k = no_end c.rows j e in
      record { back_east = λ t. cc; back_north = λ t. k.low; column_k = f.column; row_k = omega (arith, f.row); column_l = f.column; row_l = omega (arith, f.row) }
