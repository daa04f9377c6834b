-- What the functions of a step may take as known of a state: what their callers have checked.
use Rattle.std.specs.Prelude.{◌≡◌, Bool, true, List, ℕ, suc, ◌+◌, ◌*◌, ℤ, length}
use Rattle.rules.specs.declared.Card.{Card}
use Rattle.rules.specs.Site.{read_state, state_length}
use Rattle.rules.specs.Step.{transfer, limit_kept}
use Rattle.laws.specs.Sizes.{Within}
use Rattle.laws.specs.Facts.{Sound}
use Rattle.face.specs.Ranges.{InTransfer}
use Rattle.layout.specs.declared.ways.Way.{Way}
use Rattle.layout.specs.Places.{FaceIn}
use Rattle.layout.specs.Ways.{wide, high}
use Rattle.still.specs.Marks.{Marked}

-- the state of a sound site, over some ground
pub record SoundState (c : Card) (s : List ℤ) : Type 0 where
  pub land : List ℤ
  pub site : Sound c land s

-- and each cell of which keeps the step limit
pub record Limited (c : Card) (s : List ℤ) : Type 0 where
  pub sound : SoundState c s
  pub limit : limit_kept c (read_state c s) ≡ true

-- a face of such a state
pub record LimitedFace (c : Card) (s : List ℤ) (way : Way) (i j : ℕ) : Type 0 where
  pub limited : Limited c s
  pub face : FaceIn c way i j

-- the numbers of a face, and that what crosses it is at most a height
pub record InCrossing (h_k h_l u : ℤ) (dt d : ℕ) : Type 0 where
  pub ranges : InTransfer h_k h_l u dt d
  pub size : Within 50000000 (transfer dt d h_k h_l u)

-- room for what crosses the faces of one way, and for both
pub record FacesRoom (c : Card) (s : List ℤ) (marks : List Bool) (way : Way) (part : List ℤ) : Type 0 where
  pub limited : Limited c s
  pub marked : Marked c s marks
  pub long : length part ≡ high c way * wide c way

pub record CrossingsRoom (c : Card) (s : List ℤ) (marks : List Bool) (part : List ℤ) : Type 0 where
  pub limited : Limited c s
  pub marked : Marked c s marks
  pub long : length part ≡ c.rows * suc c.columns + suc c.rows * c.columns

-- a list in the state's layout
pub record TideRoom (c : Card) (s : List ℤ) (marks : List Bool) (t : List ℤ) : Type 0 where
  pub limited : Limited c s
  pub marked : Marked c s marks
  pub long : length t ≡ state_length c
