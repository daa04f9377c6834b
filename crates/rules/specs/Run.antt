-- Document 01, "Run": the step repeated, and how far it came, which it hands from step to step.
use Rattle.std.specs.Prelude.{ℕ, zero, suc, ◌+◌, List, [], ◌∷◌, get_or, ℤ, pos}
use Rattle.rules.specs.declared.Card.{Card}
use Rattle.rules.specs.Grid.{greatest, max_z}
use Rattle.rules.specs.Site.{cells, check, if_done}
use Rattle.rules.specs.Step.{Rule, new_velocity, step_number_by, next_state_by}

-- the greatest height of a state
unfoldable pub peak : Card → List ℤ → ℤ
peak c s = greatest (cells c) (λ k. get_or s k (pos 0))

-- ---- how far a run came: steps done, reason, top

pub record Progress : Type 0 where
  pub steps : ℕ
  pub reason : ℕ
  pub top : ℤ

-- before the first step, from a state with the greatest height h
unfoldable pub started : ℤ → Progress
started h = record { steps = 0; reason = 0; top = h }

-- one accepted step more, to a state with the greatest height h
unfoldable pub accepted : Progress → ℤ → Progress
accepted t h = record { steps = t.steps + 1; reason = t.reason; top = max_z t.top h }

-- stopped for a reason
unfoldable pub stopped_for : Progress → ℕ → Progress
stopped_for t k = record { steps = t.steps; reason = k; top = t.top }

-- ---- a run, over any step

-- stepping, as a run sees it, over any kind of state: the number of a state's step, the next state where that is 0, and the greatest height of a state
pub record SteppingOf (State : Type 0) : Type 0 where
  pub number : State → ℕ
  pub next : State → State
  pub peak : State → ℤ

-- how a run ends: how far it came, and the last accepted state
pub record OutcomeOf (State : Type 0) : Type 0 where
  pub progress : Progress
  pub state : State

-- both over a site's state, its list of words
abbrev pub Stepping : Type 0
Stepping = SteppingOf (List ℤ)

abbrev pub Outcome : Type 0
Outcome = OutcomeOf (List ℤ)

-- at most n steps more, from a state that was reached with the progress t
unfoldable pub run_on : {S : Type 0} → SteppingOf S → ℕ → Progress → (state : S) → OutcomeOf S
run_on step zero t s = record { progress = t; state = s }
run_on step (suc n) t s =
    elim (step.number s) [
      | zero ↦ (let s' = step.next s in run_on step n (accepted t (step.peak s')) s')
      | suc k ↦ record { progress = stopped_for t (suc k); state = s }
    ]

-- at most n steps, from the starting state
unfoldable pub run_from : {S : Type 0} → SteppingOf S → ℕ → (state : S) → OutcomeOf S
run_from step n s = run_on step n (started (step.peak s)) s

-- the history of such a run: the states from each of which an accepted step was made, the first one first
unfoldable pub history : {S : Type 0} → SteppingOf S → ℕ → (state : S) → List S
history step zero s = []
history step (suc n) s = if_done (step.number s) (s ∷ history step n (step.next s)) []

-- the run, given the number of the first three checks: reasons 1 to 3 leave steps 0, top 0 and the state as it was
unfoldable pub run_after : {S : Type 0} → (number : ℕ) → SteppingOf S → ℕ → (state : S) → OutcomeOf S
run_after zero step n s = run_from step n s
run_after (suc k) step n s = record { progress = record { steps = 0; reason = suc k; top = pos 0 }; state = s }

-- ---- a site's run

-- the step of a site with this card and this ground, by a rule for new velocities; and document 01's, as document 02 reads it
abbrev pub site_step_by : Rule → Card → (land : List ℤ) → Stepping
site_step_by rule c g = record { number = step_number_by rule c g; next = next_state_by rule c g; peak = peak c }

abbrev pub site_step : Card → (land : List ℤ) → Stepping
site_step = site_step_by new_velocity

-- document 01's run, without pumps
unfoldable pub run : Card → (land state : List ℤ) → Outcome
run c g s = run_after (check c g s) (site_step c g) c.steps s
