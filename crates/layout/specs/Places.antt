-- The places of a state: what a reader of one word requires.
use Rattle.std.specs.Prelude.{◌≡◌, List, ℕ, ◌<◌, ℤ, length}
use Rattle.rules.specs.declared.Card.{Card}
use Rattle.rules.specs.Site.{state_length}
use Rattle.laws.specs.Facts.{Ranges}
use Rattle.layout.specs.declared.ways.Way.{Way}
use Rattle.layout.specs.Ways.{wide, high}

-- a cell, in a list that has the layout of a state
pub record HeightPlace (c : Card) (s : List ℤ) (i j : ℕ) : Type 0 where
  pub long : length s ≡ state_length c
  pub column : i < c.columns
  pub row : j < c.rows

-- a face: an inner one or a wall
pub record FaceIn (c : Card) (way : Way) (i j : ℕ) : Type 0 where
  pub column : i < wide c way
  pub row : j < high c way

-- and in such a list
pub record FacePlace (c : Card) (s : List ℤ) (way : Way) (i j : ℕ) : Type 0 where
  pub card : Ranges c
  pub long : length s ≡ state_length c
  pub face : FaceIn c way i j
