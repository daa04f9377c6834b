-- A run that passed the first three checks never meets 1 to 3 in its middle: its end state passes them too, with its pumps, and its reason is 0 or one of 4, 5 and 7.
-- And it does what it says: no more steps than wanted, all of them exactly where the reason is 0.
use Rattle.std.specs.Prelude.{ℕ, ◌≡◌, Bool, true, false, List, ℤ}
use Rattle.std.proofs.Common.{sym, subst}
use Rattle.rules.specs.declared.Card.{Card}
use Rattle.rules.specs.Site.{first_refusal, read_ground, read_state}
use Rattle.rules.specs.Step.{answer, limit_kept, new_heights_fit, new_velocity, new_velocities_fit, number, step_number_by, step_number}
use Rattle.rules.specs.Pumps.{check_pumped, pumped, inlets_fit, pumped_number, pumped_step, progress_of, PumpedOutcome, pumped_run}
use Rattle.laws.specs.PumpChecks.{checked, to_checked}
use Rattle.laws.specs.PumpedSteps.{number_of, keeps_pumped, pumped_progress}
use Rattle.promises.specs.Endings.{EndsAs, Proper, ends_as}

-- the numbers of a step
pub data OfAStep : ℕ → Type 0 where
  done : OfAStep 0
  over_the_limit : OfAStep 4
  too_high : OfAStep 5
  too_fast : OfAStep 7

answers : (l h v : Bool) → OfAStep (answer l h v)
unfolding answer
answers false h v = over_the_limit
answers true false v = too_high
answers true true false = too_fast
answers true true true = done

pub step_numbers : (c : Card) (g s : List ℤ) → OfAStep (step_number c g s)
unfolding step_number_by number
step_numbers c g s =
    let w = read_state c s in
    answers (limit_kept c w) (new_heights_fit c w) (new_velocities_fit new_velocity c (read_ground c g) w)

-- and of a pumped one
pumped_answers : (l i : Bool) {own : ℕ} → OfAStep own → OfAStep (number_of l i own)
unfolding first_refusal
pumped_answers false i o = over_the_limit
pumped_answers true false o = too_high
pumped_answers true true o = o

pub pumped_numbers : (c : Card) (g ps s : List ℤ) → OfAStep ((pumped_step c g ps).number s)
unfolding pumped_number
pumped_numbers c g ps s = pumped_answers (limit_kept c (read_state c s)) (inlets_fit ps s) (step_numbers c g (pumped ps s))

-- how a run ends that wants so many steps in all
abbrev pub Ends : Card → (land pumps : List ℤ) → (wanted : ℕ) → PumpedOutcome → Type 0
Ends c g ps wanted o = EndsAs (λ s. check_pumped c g s ps ≡ 0) OfAStep wanted (record { progress = progress_of o.tally; state = o.state })

-- a site that passes the checks still passes them after an accepted step with its pumps
pub keeps : (c : Card) (g s ps : List ℤ) → check_pumped c g s ps ≡ 0 → (pumped_step c g ps).number s ≡ 0 → check_pumped c g ((pumped_step c g ps).next s) ps ≡ 0
keeps c g s ps e z =
    let p = checked c g s ps e in
    to_checked c g _ ps (record { sound = keeps_pumped new_velocity c g ps p.pumps s p.sound z; pumps = p.pumps })

proper : (c : Card) (g ps : List ℤ) → Proper (pumped_step c g ps) (λ s. check_pumped c g s ps ≡ 0) OfAStep
proper c g ps = record { kept = λ s. keeps c g s ps; numbers = pumped_numbers c g ps; done = done }

pub ends : (c : Card) (g s ps : List ℤ) → check_pumped c g s ps ≡ 0 → Ends c g ps c.steps (pumped_run c g s ps)
unfolding pumped_run
ends c g s ps e = subst (EndsAs (λ s. check_pumped c g s ps ≡ 0) OfAStep c.steps) (sym (pumped_progress c g s ps (check_pumped c g s ps) e)) (ends_as (proper c g ps) c.steps s e)
