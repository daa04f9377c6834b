-- What the functions of this half of a step may take as known: what their callers have checked.
use Rattle.std.specs.Prelude.{◌≡◌, Bool, List, ℕ, ◌*◌, ◌<◌, ℤ, length, drop}
use Rattle.rules.specs.declared.Card.{Card}
use Rattle.rules.specs.Site.{read_state, state_length}
use Rattle.still.specs.Marks.{Marked}
use Rattle.transfers.specs.Known.{SoundState, Limited}
use Rattle.transfers.specs.Tide.{crossings}

-- a cell of the state of a sound site
pub record SoundCell (c : Card) (s : List ℤ) (i j : ℕ) : Type 0 where
  pub sound : SoundState c s
  pub column : i < c.columns
  pub row : j < c.rows

-- the state of one, and the marks of its still rows
pub record MarkedState (c : Card) (s : List ℤ) (marks : List Bool) : Type 0 where
  pub sound : SoundState c s
  pub marked : Marked c s marks

-- a list in the state's layout that holds what crosses the faces behind its heights
pub record Crossed (c : Card) (s t : List ℤ) : Type 0 where
  pub limited : Limited c s
  pub long : length t ≡ state_length c
  pub crossed : drop (c.rows * c.columns) t ≡ crossings c (read_state c s)

-- and a cell there
pub record CrossedCell (c : Card) (s t : List ℤ) (i j : ℕ) : Type 0 where
  pub lists : Crossed c s t
  pub column : i < c.columns
  pub row : j < c.rows

-- any list in the state's layout
pub record InLayout (c : Card) (t : List ℤ) : Type 0 where
  pub long : length t ≡ state_length c
