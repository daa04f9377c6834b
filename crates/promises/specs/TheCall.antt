-- What is said of the run and of the step is said of the public calls: lent a list as long as its state, a run's tally and its state at exit are the run's,
-- and a step's number is that of the first three checks, and else the pumped step's own. Where that is 0, the step leaves the next state.
use Rattle.std.specs.Prelude.{ℕ, ◌≡◌, List, ℤ, length}
use Rattle.std.proofs.Common.{ap, ◌∙◌}
use Rattle.rules.specs.declared.Card.{Card}
use Rattle.rules.specs.Site.{first_refusal}
use Rattle.rules.specs.Pumps.{check_pumped, check_pumped_with, pumped_step, pumped_run_after, pumped_run}
use Rattle.rules.specs.Calls.{step_answer, step_next, run_outcome, step_answer_by, step_next_by}
use Rattle.laws.specs.PumpChecks.{check_own}
use Rattle.laws.specs.Outcomes.{if_done_lem}

-- the check with a list as long as the state
pub as_long : (c : Card) (g s ps list : List ℤ) → length list ≡ length s → check_pumped_with c g s ps (length list) ≡ check_pumped c g s ps
as_long c g s ps list e = ap (check_pumped_with c g s ps) e ∙ check_own c g s ps

pub call_runs : (c : Card) (g s ps scratch : List ℤ) → length scratch ≡ length s → run_outcome c g s ps scratch ≡ pumped_run c g s ps
unfolding run_outcome pumped_run
call_runs c g s ps scratch e = ap (λ (k : ℕ). pumped_run_after k c g s ps) (as_long c g s ps scratch e)

pub call_steps : (c : Card) (g s ps next : List ℤ) → length next ≡ length s → step_answer c g s ps next ≡ first_refusal (check_pumped c g s ps) ((pumped_step c g ps).number s)
unfolding step_answer_by
call_steps c g s ps next e = ap (λ (k : ℕ). first_refusal k ((pumped_step c g ps).number s)) (as_long c g s ps next e)

pub call_leaves : (c : Card) (g s ps next : List ℤ) → step_answer c g s ps next ≡ 0 → step_next c g s ps next ≡ (pumped_step c g ps).next s
unfolding step_next_by
call_leaves c g s ps next e = if_done_lem (step_answer c g s ps next) ((pumped_step c g ps).next s) next e
