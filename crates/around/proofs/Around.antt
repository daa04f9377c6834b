-- Around a face, said once for both ways that faces point: the faces of a cell and the cells of a face lie where they should, and the numbers between two
-- cells are those of `east_face` and `north_face`.
use Prim.Native.Nat.{ℕ, ◌≤◌, ◌<◌}
use mathlib.Core.Path.{◌≡◌, refl}
use mathlib.Core.Bool.{false}
use native.Mathlib.Omega.{arith}
use Rattle.rules.specs.declared.Card.{Card}
use Rattle.rules.specs.Grid.{Field}
use Rattle.rules.specs.Site.{Water}
use Rattle.rules.specs.Step.{east_face, north_face}
use Rattle.laws.specs.Lines.{no_end}
use Rattle.layout.specs.declared.ways.Way.{Way}
use Rattle.layout.specs.declared.ways.Way.TheVariants.{East, North}
use Rattle.layout.specs.Ways.{wide, high, is_wall, back, speeds, transfers, forth, across, pick}
use Rattle.layout.specs.Places.{FaceIn}
use Rattle.layout.proofs.Pointing.{Cell}
use Rattle.around.specs.Around.{speed_above, speed_below, gathered_face}
use Rattle.around.specs.Faces.{AtFace, inner_face}

pub forth_more : (way : Way) (n : ℕ) → n ≤ forth way n
unfolding forth
forth_more East n = omega arith
forth_more North n = omega arith

-- ---- The cells of an inner face

module _ {c : Card} (way : Way) (i j : ℕ) (column : forth way i < c.columns) (row : forth (across way) j < c.rows) where
  pub behind : Cell c i j
  behind = record { column = omega (arith, forth_more way i); row = omega (arith, forth_more (across way) j) }

  pub beyond : {i_l j_l : ℕ} → i_l ≡ forth way i → j_l ≡ forth (across way) j → Cell c i_l j_l
  beyond d e = record { column = rw d column; row = rw e row }

module _ {c : Card} {way : Way} {i j : ℕ} (a : AtFace c way i j) where
  pub cell_k : Cell c i j
  cell_k = behind way i j a.column a.row

  pub cell_l : {i_l j_l : ℕ} → i_l ≡ forth way i → j_l ≡ forth (across way) j → Cell c i_l j_l
  cell_l = beyond way i j a.column a.row

-- a face that is no wall has a cell behind it
pub inner_at : {c : Card} {i j : ℕ} → (way : Way) → FaceIn c way i j → is_wall c way i j ≡ false → AtFace c way (back way i) (back (across way) j)
unfolding wide high is_wall back forth
inner_at {c} {i} {j} East p e = let line = no_end c.columns i e in record { column = omega arith; row = p.row }
inner_at {c} {i} {j} North p e = let line = no_end c.rows j e in record { column = p.column; row = omega arith }

-- a number that is picked is above 0
pub picked : (way : Way) (m n : ℕ) → 0 < pick way m n → ((way ≡ East) → 0 < m) × ((way ≡ North) → 0 < n)
picked East m n h = (λ e. h, λ e. cc)
picked North m n h = (λ e. cc, λ e. h)

-- ---- The numbers around an inner face

pub gathered_is : (c : Card) (g : Field) (w : Water) (way : Way) (i j : ℕ) → gathered_face c g w way i j (forth way i) (forth (across way) j) ≡ inner_face c g w way i j
unfolding gathered_face inner_face east_face north_face forth speeds transfers speed_above speed_below
gathered_is c g w East i j = refl
gathered_is c g w North i j = refl
