-- Document 02, [2]: still water stays. A site that passes the first three checks and whose water is still (AtRest.antt): its step is accepted, and its next state
-- is the state; its run does all the steps wanted, with reason 0, the greatest height as top, and the state unchanged.
use Rattle.std.specs.Prelude.{◌≡◌, true, ℤ, pos, length, replicate}
use Rattle.std.proofs.Math.Path.{ap}
use Rattle.std.proofs.Common.{◌∙◌}
use mathlib.Core.List.{List, []}
use Rattle.rules.specs.declared.Card.{Card}
use Rattle.rules.specs.Site.{check, first_refusal}
use Rattle.rules.specs.Step.{new_velocity, step_number, next_state}
use Rattle.rules.specs.Run.{Stepping, peak, site_step, run}
use Rattle.rules.specs.Pumps.{PumpedOutcome, pumped_step}
use Rattle.rules.specs.Calls.{step_answer, step_next, run_tally, run_state, run_scratch}
use Rattle.laws.specs.Runs.{begun, stands}
use Rattle.promises.specs.AtRest.{still_water}
use Rattle.promises.proofs.WhyStill.{rested, number_by, next_by}
use Rattle.promises.specs.Refused.{scratch_zero}
use Rattle.promises.specs.TheCall.{as_long, call_steps, call_leaves, call_runs}
use Rattle.promises.specs.NoPumps.{unpumped, no_pumps_step, no_pumps_check, no_pumps_run}

-- ---- What is promised: of the step and the run, and of the public calls, each lent a list as long as the state and no pumps

pub record StaysStill (c : Card) (g s : List ℤ) : Type 0 where
  pub number : step_number c g s ≡ 0
  pub next : next_state c g s ≡ s
  pub runs : run c g s ≡ record { progress = record { steps = c.steps; reason = 0; top = peak c s }; state = s }

pub record StepCallStaysStill (c : Card) (g s next : List ℤ) : Type 0 where
  pub number : step_answer c g s [] next ≡ 0
  pub state : step_next c g s [] next ≡ s

pub record RunCallStaysStill (c : Card) (g s scratch : List ℤ) : Type 0 where
  pub tally : run_tally c g s [] scratch ≡ record { steps = c.steps; reason = 0; top = peak c s; added = 0; taken = 0 }
  pub state : run_state c g s [] scratch ≡ s
  pub scratch_zero : run_scratch c g s [] scratch ≡ replicate (length scratch) (pos 0)

-- ---- The theorems

module _ (c : Card) (g s : List ℤ) (passes : check c g s ≡ 0) (still : still_water c g s ≡ true) where
  accepted : step_number c g s ≡ 0
  accepted = number_by new_velocity rested c g s passes still

  unchanged : next_state c g s ≡ s
  unchanged = next_by new_velocity rested c g s passes still

  pub still_water_lem : StaysStill c g s
  unfolding run
  still_water_lem = record {
    number = accepted;
    next = unchanged;
    runs = begun (site_step c g) c.steps s (check c g s) passes ∙ stands (site_step c g) s accepted unchanged c.steps;
  }

  pub still_of_the_step : (next : List ℤ) → length next ≡ length s → StepCallStaysStill c g s next
  unfolding first_refusal
  still_of_the_step next l =
      let same = no_pumps_step new_velocity c g in
      let n : (pumped_step c g []).number s ≡ 0 = ap (λ (x : Stepping). x.number s) same ∙ accepted in
      let a : step_answer c g s [] next ≡ 0 = call_steps c g s [] next l ∙ rw (no_pumps_check c g s, passes, n) in
      record { number = a; state = call_leaves c g s [] next a ∙ ap (λ (x : Stepping). x.next s) same ∙ unchanged }

  pub still_of_the_run : (scratch : List ℤ) → length scratch ≡ length s → RunCallStaysStill c g s scratch
  unfolding run_tally run_state
  still_of_the_run scratch l =
      let e = call_runs c g s [] scratch l ∙ no_pumps_run c g s ∙ ap unpumped still_water_lem.runs in
      record {
        tally = ap (λ (o : PumpedOutcome). o.tally) e;
        state = ap (λ (o : PumpedOutcome). o.state) e;
        scratch_zero = scratch_zero c g s [] scratch (as_long c g s [] scratch l ∙ no_pumps_check c g s ∙ passes);
      }
