-- The velocities of the next state, and what the passes that fill them require.
use Rattle.std.specs.Prelude.{ℕ, suc, ◌≡◌, Bool, true, false, List, ◌++◌, ℤ, length}
use Rattle.rules.specs.declared.Card.{Card}
use Rattle.rules.specs.Grid.{Field, grid}
use Rattle.rules.specs.Site.{read_ground, read_state}
use Rattle.rules.specs.Step.{Rule, new_east, new_north}
use Rattle.layout.specs.declared.ways.Way.{Way}
use Rattle.layout.specs.declared.ways.Way.TheVariants.{East, North}
use Rattle.layout.specs.Places.{FaceIn}
use Rattle.layout.specs.Ways.{forth, across}
use Rattle.still.specs.Rows.{CellsStill, BothStill}
use Rattle.still.specs.Marks.{Marked}
use Rattle.around.specs.declared.flow.Flow.{Flow}
use Rattle.around.specs.Faces.{AtFace}

-- a face (i, j): an inner one or a wall; and whether its row is passed over as still, which the textbook engine does with none
pub record OnFace (c : Card) (s : List ℤ) (way : Way) (i j : ℕ) (still textbook : Bool) : Type 0 where
  pub face : FaceIn c way i j
  pub both : still ≡ true → BothStill c (read_state c s) way j
  pub first_engine : still ≡ true → textbook ≡ false

-- an inner face, by the place of its cell K
pub record OnInner (c : Card) (s : List ℤ) (way : Way) (k l : ℕ) (still textbook : Bool) : Type 0 where
  pub at_face : AtFace c way k l
  pub row_k : still ≡ true → CellsStill c (read_state c s) l
  pub row_l : still ≡ true → CellsStill c (read_state c s) (forth (across way) l)
  pub first_engine : still ≡ true → textbook ≡ false

-- room for so many velocities, and the marks of the still rows
pub record Room (c : Card) (s : List ℤ) (marks : List Bool) (n : ℕ) (part : List ℤ) : Type 0 where
  pub marked : Marked c s marks
  pub long : length part ≡ n

-- the new velocities by a rule, of the faces that point one way
unfoldable pub new_speeds : Rule → Card → (land state : List ℤ) → Way → Field
new_speeds rule c g s East = new_east rule c (read_ground c g) (read_state c s)
new_speeds rule c g s North = new_north rule c (read_ground c g) (read_state c s)

-- those of a step half way through
abbrev pub flow_speeds : Rule → Flow → Way → Field
flow_speeds rule f = new_speeds rule f.card f.land.now f.state.now

-- and of both, as they stand behind the heights of the next state
unfoldable pub next_velocities : Rule → Card → (land state : List ℤ) → List ℤ
next_velocities rule c g s =
    grid (suc c.columns) c.rows (new_east rule c (read_ground c g) (read_state c s))
    ++ grid c.columns (suc c.rows) (new_north rule c (read_ground c g) (read_state c s))
