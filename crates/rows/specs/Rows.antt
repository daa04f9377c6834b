-- Rows that have space on a page: what the functions that print them ask of each other.
use Rattle.std.specs.Prelude.{List, ℕ, ◌≤◌, ◌<◌, ℤ, length}
use Rattle.rules.specs.declared.Card.{Card}
use Rattle.rules.specs.Site.{cells}

-- a state of at most 32×32 cells, whose lines end at or before `end` on a page of `room` bytes; a row of it; and a cell of it
pub record Rows (c : Card) (state : List ℤ) (end room : ℕ) : Type 0 where
  pub narrow : c.columns ≤ 32
  pub short : c.rows ≤ 32
  pub held : cells c ≤ length state
  pub space : end ≤ room

pub record Row (c : Card) (state : List ℤ) (j end room : ℕ) : Type 0 where
  pub rows : Rows c state end room
  pub row : j < c.rows

pub record Cell (c : Card) (state : List ℤ) (i j end room : ℕ) : Type 0 where
  pub rows : Rows c state end room
  pub row : j < c.rows
  pub column : i < c.columns
