-- What a turn does to a site, one step and one cell at a time. A turn of which this holds obeys demand 3 (TurnedRuns.antt); so does one turn after another.
use Rattle.std.specs.Prelude.{ℕ, ◌<◌, ◌≡◌, List, ℤ, pos, length, get_or}
use Rattle.std.proofs.Common.{sym, ap, ◌∙◌}
use Rattle.rules.specs.declared.Card.{Card}
use Rattle.rules.specs.Site.{cells, state_length, check}
use Rattle.rules.specs.Step.{step_number, next_state}
use Rattle.rules.specs.Run.{peak}
use Rattle.rules.specs.Turn.{Turn}
use Rattle.laws.specs.Stored.{SameFaces}

-- the cell that a turn brings to a place of the turned site
pub record ComesFrom (t : Turn) (c : Card) (place : ℕ) : Type 0 where
  pub cell : ℕ
  pub held : cell < cells c
  pub is : t.cell c cell ≡ place

pub record Lawful (t : Turn) : Type 0 where
  -- one step: the turned site wants as many steps, passes the checks too, and its step has the same number, the next state turned and the same greatest height
  pub steps : (c : Card) → (t.card c).steps ≡ c.steps
  pub checks : (c : Card) (g s : List ℤ) → check c g s ≡ 0 → check (t.card c) (t.land c g) (t.state c s) ≡ 0
  pub numbers : (c : Card) (g s : List ℤ) → step_number (t.card c) (t.land c g) (t.state c s) ≡ step_number c g s
  pub states : (c : Card) (g s : List ℤ) → next_state (t.card c) (t.land c g) (t.state c s) ≡ t.state c (next_state c g s)
  pub peaks : (c : Card) (s : List ℤ) → peak (t.card c) (t.state c s) ≡ peak c s
  -- the cells: each goes to a cell of the turned site, no two to one, and none is left out
  pub places : (c : Card) (k : ℕ) → k < cells c → t.cell c k < cells (t.card c)
  pub apart : (c : Card) (k l : ℕ) → k < cells c → l < cells c → t.cell c k ≡ t.cell c l → k ≡ l
  pub from : (c : Card) (m : ℕ) → m < cells (t.card c) → ComesFrom t c m
  -- a turned state: as long as the turned site asks for, the height of a turned cell is the cell's, and its velocities come from the velocities
  pub long : (c : Card) (s : List ℤ) → length (t.state c s) ≡ state_length (t.card c)
  pub heights : (c : Card) (s : List ℤ) (k : ℕ) → k < cells c → get_or (t.state c s) (t.cell c k) (pos 0) ≡ get_or s k (pos 0)
  pub faces : (c : Card) (s v : List ℤ) → SameFaces c s v → SameFaces (t.card c) (t.state c s) (t.state c v)

-- one turn, then another
abbrev pub ◌then◌ : Turn → Turn → Turn
◌then◌ t u = record {
  card = λ c. u.card (t.card c);
  cell = λ c k. u.cell (t.card c) (t.cell c k);
  land = λ c g. u.land (t.card c) (t.land c g);
  state = λ c s. u.state (t.card c) (t.state c s);
}

pub both : (t u : Turn) → Lawful t → Lawful u → Lawful (◌then◌ t u)
both t u 𝓛 𝓤 = record {
  steps = λ c. 𝓤.steps (t.card c) ∙ 𝓛.steps c;
  checks = λ c g s e. 𝓤.checks (t.card c) (t.land c g) (t.state c s) (𝓛.checks c g s e);
  numbers = λ c g s. 𝓤.numbers (t.card c) (t.land c g) (t.state c s) ∙ 𝓛.numbers c g s;
  states = λ c g s. 𝓤.states (t.card c) (t.land c g) (t.state c s) ∙ ap (u.state (t.card c)) (𝓛.states c g s);
  peaks = λ c s. 𝓤.peaks (t.card c) (t.state c s) ∙ 𝓛.peaks c s;
  places = λ c k h. 𝓤.places (t.card c) (t.cell c k) (𝓛.places c k h);
  apart = λ c k l hk hl e. 𝓛.apart c k l hk hl (𝓤.apart (t.card c) (t.cell c k) (t.cell c l) (𝓛.places c k hk) (𝓛.places c l hl) e);
  from = λ c m h.
      let y = 𝓤.from (t.card c) m h in
      let x = 𝓛.from c y.cell y.held in
      record { cell = x.cell; held = x.held; is = ap (u.cell (t.card c)) x.is ∙ y.is };
  long = λ c s. 𝓤.long (t.card c) (t.state c s);
  heights = λ c s k h. 𝓤.heights (t.card c) (t.state c s) (t.cell c k) (𝓛.places c k h) ∙ 𝓛.heights c s k h;
  faces = λ c s v e. 𝓤.faces (t.card c) (t.state c s) (t.state c v) (𝓛.faces c s v e);
}

-- where a cell that a site has not goes does not count
abbrev pub with_cell : Turn → (Card → ℕ → ℕ) → Turn
with_cell t cell = record { card = t.card; cell = cell; land = t.land; state = t.state }

pub same_cells : (t : Turn) (cell : Card → ℕ → ℕ) → ((c : Card) (k : ℕ) → k < cells c → t.cell c k ≡ cell c k) → Lawful t → Lawful (with_cell t cell)
same_cells t cell same 𝓛 = record {
  steps = 𝓛.steps;
  checks = 𝓛.checks;
  numbers = 𝓛.numbers;
  states = 𝓛.states;
  peaks = 𝓛.peaks;
  places = λ c k h. rw (← (same c k h)) (𝓛.places c k h);
  apart = λ c k l hk hl e. 𝓛.apart c k l hk hl (same c k hk ∙ e ∙ sym (same c l hl));
  from = λ c m h. let x = 𝓛.from c m h in record { cell = x.cell; held = x.held; is = sym (same c x.cell x.held) ∙ x.is };
  long = 𝓛.long;
  heights = λ c s k h. rw (← (same c k h)) (𝓛.heights c s k h);
  faces = 𝓛.faces;
}
