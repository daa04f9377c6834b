-- Document 02, [10]: pumps and inlets. 0 to 64 of them act in list order before the step, as part of it. They wrap the step and do not enter its formulas: the step is
-- made from the pumped state.
use Rattle.std.specs.Prelude.{ℕ, zero, suc, ◌+◌, ◌*◌, ◌/◌, ◌%◌, ◌≤◌, ◌<◌, Bool, cond, ◌&&◌, List, [], ◌∷◌, ℤ, pos, nat_abs, ◌+ℤ◌, ◌-ℤ◌, leb, eqb, length, get_or, set}
use Rattle.std.specs.Int.Signed.{le_z, lt_z}
use Rattle.rules.specs.declared.Card.{Card}
use Rattle.rules.specs.declared.Tally.{Tally}
use Rattle.rules.specs.Grid.{all}
use Rattle.rules.specs.Site.{cells, state_length, read_state, check_also, first_refusal, if_done}
use Rattle.rules.specs.Step.{Rule, new_velocity, forward, backward, limit_kept}
use Rattle.rules.specs.Run.{Progress, accepted, Stepping, Outcome, history, run_after, site_step_by}

-- ---- A pump: its cell, by the cell's place in the ground's list, and its amount, in µm a step. Below 0 it takes away, above 0 it is an inlet.

pub record Pump : Type 0 where
  pub cell : ℤ
  pub amount : ℤ

-- They are lent as one list of words, cell and amount by turns: pump k of a list, and how many it has
unfoldable pub pump_at : (pumps : List ℤ) → ℕ → Pump
pump_at ps k = record { cell = get_or ps (2 * k) (pos 0); amount = get_or ps (2 * k + 1) (pos 0) }

abbrev pub pump_count : (pumps : List ℤ) → ℕ
pump_count ps = length ps / 2

-- ---- What the first three checks ask of them

-- 1: at most 64
unfoldable pub few_pumps : (pumps : List ℤ) → Bool
few_pumps ps = leb (pump_count ps) 64

-- 2: no word is left over
unfoldable pub whole_pumps : (pumps : List ℤ) → Bool
whole_pumps ps = eqb (length ps % 2) 0

-- 3: the site has the cell, and the amount is in its range
unfoldable pub pump_fits : Card → Pump → Bool
pump_fits c p = le_z (pos 0) p.cell && lt_z p.cell (pos (cells c)) && leb (nat_abs p.amount) 1000000

unfoldable pub pumps_fit : Card → (pumps : List ℤ) → Bool
pumps_fit c ps = all (pump_count ps) (λ k. pump_fits c (pump_at ps k))

-- the first three checks of a card, a ground, a state and pumps
unfoldable pub check_pumped : Card → (land state pumps : List ℤ) → ℕ
check_pumped c g s ps = check_also (few_pumps ps) (whole_pumps ps) (pumps_fit c ps) c g s

-- and of one more list, of so many words, that is to be as long as the state: the next state, or a run's scratch list
unfoldable pub check_pumped_with : Card → (land state pumps : List ℤ) (words : ℕ) → ℕ
check_pumped_with c g s ps words = check_also (few_pumps ps) (whole_pumps ps && eqb words (state_length c)) (pumps_fit c ps) c g s

-- ---- One pump, at its turn, on a cell of this height

-- what it adds: its amount, if it is an inlet
unfoldable pub adds : Pump → ℕ
adds p = forward p.amount

-- what it takes: what it is to take away, and no more than is there
unfoldable pub takes : Pump → (height : ℤ) → ℕ
takes p h = cond (leb (backward p.amount) (nat_abs h)) (backward p.amount) (nat_abs h)

-- and the height after it
unfoldable pub height_after : Pump → (height : ℤ) → ℤ
height_after p h = h +ℤ pos (adds p) -ℤ pos (takes p h)

-- ---- On a state: its heights come first, so that the height of a cell is the word at the cell's place

abbrev pub height_at : Pump → (state : List ℤ) → ℤ
height_at p s = get_or s (nat_abs p.cell) (pos 0)

unfoldable pub after_pump : Pump → (state : List ℤ) → List ℤ
after_pump p s = set s (nat_abs p.cell) (height_after p (height_at p s))

-- ---- The first n pumps of a list, one after the other: the state after them, what they add, and what they take

unfoldable pub after_pumps : (pumps : List ℤ) → ℕ → (state : List ℤ) → List ℤ
after_pumps ps zero s = s
after_pumps ps (suc n) s = after_pump (pump_at ps n) (after_pumps ps n s)

-- the height that pump k finds at its turn
abbrev pub height_found : (pumps state : List ℤ) → ℕ → ℤ
height_found ps s k = height_at (pump_at ps k) (after_pumps ps k s)

unfoldable pub adds_up_to : (pumps : List ℤ) → ℕ → ℕ
adds_up_to ps zero = 0
adds_up_to ps (suc n) = adds_up_to ps n + adds (pump_at ps n)

unfoldable pub takes_up_to : (pumps state : List ℤ) → ℕ → ℕ
takes_up_to ps s zero = 0
takes_up_to ps s (suc n) = takes_up_to ps s n + takes (pump_at ps n) (height_found ps s n)

-- ---- All pumps of a list

unfoldable pub pumped : (pumps state : List ℤ) → List ℤ
pumped ps s = after_pumps ps (pump_count ps) s

unfoldable pub added_by : (pumps : List ℤ) → ℕ
added_by ps = adds_up_to ps (pump_count ps)

unfoldable pub taken_by : (pumps state : List ℤ) → ℕ
taken_by ps s = takes_up_to ps s (pump_count ps)

-- pump k leaves its cell at no more than 50,000,000 at its turn, whatever a later pump would take back
unfoldable pub turn_fits : (pumps state : List ℤ) → ℕ → Bool
turn_fits ps s k = le_z (height_after (pump_at ps k) (height_found ps s k)) (pos 50000000)

-- no inlet takes its cell past that (a pump that takes away never does)
unfoldable pub inlets_fit : (pumps state : List ℤ) → Bool
inlets_fit ps s = all (pump_count ps) (turn_fits ps s)

-- ---- The pumped step, over any step of a site: it is made from the pumped state. Its number is the lowest that applies: 4 where the step limit is broken, which reads
-- velocities only and so is that of the state as it was; else 5 where an inlet passes the top; else the number of the step from the pumped state

unfoldable pub pumped_number : Card → (pumps : List ℤ) → (number : List ℤ → ℕ) → (state : List ℤ) → ℕ
pumped_number c ps number s = first_refusal (cond (limit_kept c (read_state c s)) 0 4) (first_refusal (cond (inlets_fit ps s) 0 5) (number (pumped ps s)))

abbrev pub pumping : Card → (pumps : List ℤ) → Stepping → Stepping
pumping c ps step = record { number = pumped_number c ps step.number; next = λ s. step.next (pumped ps s); peak = step.peak }

-- by either engine
abbrev pub pumped_step_by : Rule → Card → (land pumps : List ℤ) → Stepping
pumped_step_by rule c g ps = pumping c ps (site_step_by rule c g)

abbrev pub pumped_step : Card → (land pumps : List ℤ) → Stepping
pumped_step = pumped_step_by new_velocity

-- ---- What pumps add and take over a history of steps: the states from each of which an accepted step was made

unfoldable pub added_over : (pumps : List ℤ) (history : List (List ℤ)) → ℕ
added_over ps [] = 0
added_over ps (s ∷ ss) = added_by ps + added_over ps ss

unfoldable pub taken_over : (pumps : List ℤ) (history : List (List ℤ)) → ℕ
taken_over ps [] = 0
taken_over ps (s ∷ ss) = taken_by ps s + taken_over ps ss

-- ---- A run with pumps: its tally, which is how far it came and what was added and taken in all; and the last accepted state

pub record PumpedOutcome : Type 0 where
  pub tally : Tally
  pub state : List ℤ

abbrev pub progress_of : Tally → Progress
progress_of t = record { steps = t.steps; reason = t.reason; top = t.top }

abbrev pub tally_of : Progress → (added taken : ℕ) → Tally
tally_of p a k = record { steps = p.steps; reason = p.reason; top = p.top; added = a; taken = k }

-- one accepted step more, to a state with the greatest height h, in which a was added and k was taken
unfoldable pub one_more : Tally → (h : ℤ) (a k : ℕ) → Tally
one_more t h a k = tally_of (accepted (progress_of t) h) (t.added + a) (t.taken + k)

-- a tally has room for one more: there are at most 10,000 steps, and each adds and takes at most 64 times 1,000,000
pub record HasRoom (t : Tally) (a k : ℕ) : Type 0 where
  pub steps : t.steps < 10000
  pub added : t.added + a ≤ 640000000000
  pub taken : t.taken + k ≤ 640000000000

-- a run's outcome with the totals of its history
unfoldable pub reported : (pumps : List ℤ) (history : List (List ℤ)) → Outcome → PumpedOutcome
reported ps h o = record { tally = tally_of o.progress (added_over ps h) (taken_over ps h); state = o.state }

-- the run by a pumped step, given the number of the first three checks: where they refuse there is no step, and no history
unfoldable pub pumped_run_after : (number : ℕ) → Card → (land state pumps : List ℤ) → PumpedOutcome
pumped_run_after number c g s ps =
    let step = pumped_step c g ps in
    reported ps (if_done number (history step c.steps s) []) (run_after number step c.steps s)

unfoldable pub pumped_run : Card → (land state pumps : List ℤ) → PumpedOutcome
pumped_run c g s ps = pumped_run_after (check_pumped c g s ps) c g s ps
