-- The faces abreast of a face, said once for both ways that faces point: by the tests that the code makes for the next one and for the one before, they lie
-- among the faces, and their velocities are those that stand above and below.
use Prim.Native.Nat.{ℕ, suc}
use mathlib.Core.Path.{◌≡◌}
use mathlib.Core.Bool.{true, cond, ◌&&◌, and-true}
use native.Mathlib.Omega.{arith}
use borrow.Author.Tests.{lt-ltb}
use lib.Dec.{ltb, ltb→lt}
use lib.IntN.{pos}
use Rattle.rules.specs.declared.Card.{Card}
use Rattle.rules.specs.Site.{Water}
use Rattle.rules.specs.Step.{after}
use Rattle.laws.specs.Tests.{and_left, and_right, to_T}
use Rattle.laws.specs.Lines.{before_is}
use Rattle.layout.specs.declared.ways.Way.{Way}
use Rattle.layout.specs.declared.ways.Way.TheVariants.{East, North}
use Rattle.layout.specs.Ways.{wide, high, back, speeds, forth, across, pick}
use Rattle.layout.specs.Places.{FaceIn}
use Rattle.around.specs.Around.{speed_above, speed_below}

module _ {c : Card} {i j : ℕ} where
  -- the next one, and where there is one
  pub above_is : (w : Water) (way : Way) → FaceIn c way i j
      → speed_above c w way i j ≡ cond (ltb (forth (across way) i) (wide c way) && ltb (forth way j) (high c way)) (speeds w way (forth (across way) i) (forth way j)) (pos 0)
  unfolding wide high forth speed_above after
  above_is w East p = rw (lt-ltb i (suc c.columns) p.column)
  above_is w North p = rw (lt-ltb j (suc c.rows) p.row, and-true)

  pub above_in : (way : Way) {m n : ℕ} → m ≡ wide c way → n ≡ high c way → (ltb i m && ltb j n) ≡ true → FaceIn c way i j
  above_in way {m} {n} d e t =
      record {
        column = rw d at (ltb→lt i m (and_left (ltb i m) (ltb j n) (to_T t)));
        row = rw e at (ltb→lt j n (and_right (ltb i m) (ltb j n) (to_T t)));
      }

  -- the one before
  pub below_in : (way : Way) → FaceIn c way i j → FaceIn c way (back (across way) i) (back way j)
  unfolding wide high back
  below_in East p = record { column = p.column; row = omega arith }
  below_in North p = record { column = omega arith; row = p.row }

pub below_is : (w : Water) (way : Way) (i j : ℕ)
    → speed_below w way i j ≡ cond (ltb 0 (pick way j i)) (speeds w way (back (across way) i) (back way j)) (pos 0)
unfolding back speed_below
below_is w East i j = before_is _ j
below_is w North i j = before_is _ i
