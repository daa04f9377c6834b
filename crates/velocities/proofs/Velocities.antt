-- The new velocity of a face, by the test for a wall: 0 there, and the rule of an inner face with the numbers around it elsewhere.
use Prim.Native.Nat.{ℕ, ◌≤◌}
use mathlib.Core.Path.{◌≡◌, ◌∙◌, sym}
use mathlib.Core.Bool.{Bool, false, cond}
use native.Mathlib.Omega.{arith}
use mathlib.Core.List.{List}
use lib.IntN.{ℤ, pos}
use Rattle.rules.specs.declared.Card.{Card}
use Rattle.rules.specs.Site.{read_ground, read_state}
use Rattle.rules.specs.Step.{Rule, new_east, new_north}
use Rattle.laws.specs.Lines.{walled_is}
use Rattle.layout.specs.declared.ways.Way.{Way}
use Rattle.layout.specs.declared.ways.Way.TheVariants.{East, North}
use Rattle.layout.specs.Ways.{wide, high, side, is_wall, back, across}
use Rattle.layout.specs.Places.{FaceIn}
use Rattle.layout.proofs.Pointing.{beside, back_forth_row}
use Rattle.around.specs.Faces.{inner_face}
use Rattle.around.proofs.Around.{inner_at}
use Rattle.velocities.specs.Velocities.{OnFace, OnInner, new_speeds}

pub new_is : (rule : Rule) (c : Card) (g s : List ℤ) (way : Way) {i j : ℕ} → FaceIn c way i j
    → new_speeds rule c g s way i j
    ≡ cond (is_wall c way i j) (pos 0) (rule c.dt (side c way) (inner_face c (read_ground c g) (read_state c s) way (back way i) (back (across way) j)))
unfolding new_speeds new_east new_north inner_face wide high side is_wall back
new_is rule c g s East {i} {j} p = let h : i ≤ c.columns = omega arith in walled_is c.columns _ i h
new_is rule c g s North {i} {j} p = let h : j ≤ c.rows = omega arith in walled_is c.rows _ j h

-- an inner face, by the place of its cell K: there is one, and its new velocity is the rule's
module _ {c : Card} {s : List ℤ} {way : Way} {i j : ℕ} {still textbook : Bool} (on : OnFace c s way i j still textbook) (inner : is_wall c way i j ≡ false)
    {k l : ℕ} (column : k ≡ back way i) (row : l ≡ back (across way) j) where
  pub on_inner : OnInner c s way k l still textbook
  on_inner = record {
    at_face = rw (column, row) (inner_at way on.face inner);
    row_k = λ z. rw row (on.both z).row_k;
    row_l = λ z. rw (row, back_forth_row way j (beside c way i j on.face inner).back_north) (on.both z).row_l;
    first_engine = on.first_engine;
  }

  pub inner_is : (rule : Rule) (g : List ℤ) → rule c.dt (side c way) (inner_face c (read_ground c g) (read_state c s) way k l) ≡ new_speeds rule c g s way i j
  inner_is rule g = rw (column, row) (sym (new_is rule c g s way on.face ∙ rw inner))
