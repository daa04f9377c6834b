-- Document 01, "To turn a site": the three turns, with the pumps of document 02's [10], and demand 3 as a statement.
use Rattle.std.specs.Prelude.{ℕ, ◌+◌, ◌-◌, ◌*◌, ◌/◌, ◌%◌, List, [], ◌∷◌, ◌≡◌, ℤ, pos, nat_abs, neg_ℤ}
use Rattle.rules.specs.declared.Card.{Card}
use Rattle.rules.specs.Grid.{grid}
use Rattle.rules.specs.Site.{read_ground, read_state, write_state}
use Rattle.rules.specs.Pumps.{check_pumped, PumpedOutcome, pumped_run}

-- what becomes of the card, of a cell's place in the ground's list, of a ground and of a state, given the card
pub record Turn : Type 0 where
  pub card : Card → Card
  pub cell : Card → ℕ → ℕ
  pub land : Card → List ℤ → List ℤ
  pub state : Card → List ℤ → List ℤ

-- east for west: reverse each row of ground, heights and both velocities, and negate the eastward ones
abbrev pub east_west : Turn
east_west = record {
  card = λ c. c;
  cell = λ c k. k / c.columns * c.columns + (c.columns - 1 - k % c.columns);
  land = λ c g. grid c.columns c.rows (λ i j. read_ground c g (c.columns - 1 - i) j);
  state = λ c s. write_state c (record {
    height = λ i j. (read_state c s).height (c.columns - 1 - i) j;
    east = λ i j. neg_ℤ ((read_state c s).east (c.columns - i) j);
    north = λ i j. (read_state c s).north (c.columns - 1 - i) j;
  });
}

-- north for south: the same with rows and northward velocities
abbrev pub north_south : Turn
north_south = record {
  card = λ c. c;
  cell = λ c k. (c.rows - 1 - k / c.columns) * c.columns + k % c.columns;
  land = λ c g. grid c.columns c.rows (λ i j. read_ground c g i (c.rows - 1 - j));
  state = λ c s. write_state c (record {
    height = λ i j. (read_state c s).height i (c.rows - 1 - j);
    east = λ i j. (read_state c s).east i (c.rows - 1 - j);
    north = λ i j. neg_ℤ ((read_state c s).north i (c.rows - j));
  });
}

-- swapped axes: exchange columns and rows, dx and dy, eastward and northward, and transpose every list
abbrev pub swap_card : Card → Card
swap_card c = record { columns = c.rows; rows = c.columns; dx = c.dy; dy = c.dx; dt = c.dt; steps = c.steps }

abbrev pub swap_axes : Turn
swap_axes = record {
  card = swap_card;
  cell = λ c k. k % c.columns * c.rows + k / c.columns;
  land = λ c g. grid c.rows c.columns (λ i j. read_ground c g j i);
  state = λ c s. write_state (swap_card c) (record {
    height = λ i j. (read_state c s).height j i;
    east = λ i j. (read_state c s).north j i;
    north = λ i j. (read_state c s).east j i;
  });
}

-- pumps: their cells turned, their amounts and their order kept (a word left over, or a cell below 0, has no turn of its own: neither passes the checks)
unfoldable pub turned_pumps : Turn → Card → (pumps : List ℤ) → List ℤ
turned_pumps t c [] = []
turned_pumps t c (left ∷ []) = left ∷ []
turned_pumps t c (cell ∷ amount ∷ ps) = pos (t.cell c (nat_abs cell)) ∷ amount ∷ turned_pumps t c ps

-- the same tally, and the end state turned
abbrev pub turned : Turn → Card → PumpedOutcome → PumpedOutcome
turned t c o = record { tally = o.tally; state = t.state c o.state }

-- Demand 3, of a turn: a site that passes the first three checks, turned with its pumps, runs for as many steps, stops for the same reason, has the same top, has
-- as much added and taken, and ends in the first run's end state turned
abbrev pub Obeys : Turn → Type 0
Obeys t =
    (c : Card) (g s ps : List ℤ) → check_pumped c g s ps ≡ 0
    → pumped_run (t.card c) (t.land c g) (t.state c s) (turned_pumps t c ps) ≡ turned t c (pumped_run c g s ps)
