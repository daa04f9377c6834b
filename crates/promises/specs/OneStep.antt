-- A run that wants 1 step is the step: its reason is the step's number, and it leaves what the step makes. First over any step, then of the public calls.
use Rattle.std.specs.Prelude.{ℕ, ◌≡◌, List, ℤ}
use Rattle.rules.specs.declared.Card.{Card}
use Rattle.rules.specs.Site.{if_done}
use Rattle.rules.specs.Run.{OutcomeOf}
use Rattle.rules.specs.Pumps.{added_by, taken_by, PumpedOutcome}
use Rattle.rules.specs.Calls.{step_answer, step_next, run_tally, run_state}

-- ---- over any step

-- an outcome of one step at most, from the state s: its number is the reason; 0 leaves the state that it made after 1 step, and else s is left after none
pub record Once {S : Type 0} (number : ℕ) (made s : S) (o : OutcomeOf S) : Type 0 where
  pub reason : o.progress.reason ≡ number
  pub steps : o.progress.steps ≡ if_done number 1 0
  pub state : o.state ≡ if_done number made s

-- ---- of a site with pumps, given the number of its first three checks: what was added and taken is what the step's pumps added and took
pub record OncePumped (number : ℕ) (made s : List ℤ) (added taken : ℕ) (o : PumpedOutcome) : Type 0 where
  pub reason : o.tally.reason ≡ number
  pub steps : o.tally.steps ≡ if_done number 1 0
  pub state : o.state ≡ if_done number made s
  pub added_is : o.tally.added ≡ if_done number added 0
  pub taken_is : o.tally.taken ≡ if_done number taken 0

-- ---- of the public calls

-- the run that is lent a scratch list, beside the step that is lent a list for the next state
pub record IsTheStep (c : Card) (g s ps next scratch : List ℤ) : Type 0 where
  pub reason : (run_tally c g s ps scratch).reason ≡ step_answer c g s ps next
  pub steps : (run_tally c g s ps scratch).steps ≡ if_done (step_answer c g s ps next) 1 0
  pub added : (run_tally c g s ps scratch).added ≡ if_done (step_answer c g s ps next) (added_by ps) 0
  pub taken : (run_tally c g s ps scratch).taken ≡ if_done (step_answer c g s ps next) (taken_by ps s) 0
  pub state : run_state c g s ps scratch ≡ if_done (step_answer c g s ps next) (step_next c g s ps next) s
