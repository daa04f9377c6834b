-- Document 02, [10], with an empty list of pumps: the pumped step and run are the step and the run without pumps, for every input, and nothing is added or taken. So what
-- is promised of these is promised of the calls that are lent no pumps: still water stays ([2], StillWater.antt), and the sum of heights is kept ([8], WaterKept.antt).
use Rattle.std.specs.Prelude.{ℕ, ◌≡◌, refl, true, List, [], ◌∷◌, ℤ, eqb}
use Rattle.std.proofs.Common.{ap, ◌∙◌}
use Rattle.rules.specs.declared.Card.{Card}
use Rattle.rules.specs.Site.{state_length, check_also, check, if_done}
use Rattle.rules.specs.Step.{Rule, new_velocity}
use Rattle.rules.specs.Run.{Stepping, Outcome, history, site_step, site_step_by, run_after, run}
use Rattle.rules.specs.Pumps.{PumpedOutcome, tally_of, adds_up_to, takes_up_to, added_by, taken_by, added_over, taken_over, reported, pumped_step_by, pumped_step, check_pumped, check_pumped_with, pumped_run_after, pumped_run}
use Rattle.laws.specs.PumpChecks.{none_pass, none_checked}
use Rattle.laws.specs.PumpedSteps as Steps

-- a run without pumps, as the call reports it: nothing added, nothing taken
abbrev pub unpumped : Outcome → PumpedOutcome
unpumped o = record { tally = tally_of o.progress 0 0; state = o.state }

-- the step, by either engine
pub no_pumps_step : (rule : Rule) (c : Card) (g : List ℤ) → pumped_step_by rule c g [] ≡ site_step_by rule c g
no_pumps_step = Steps.no_pumps

-- the checks
pub no_pumps_check : (c : Card) (g s : List ℤ) → check_pumped c g s [] ≡ check c g s
no_pumps_check = none_checked

-- and those of a call that is lent one more list, of so many words, which is to be as long as the state
pub no_pumps_check_with : (c : Card) (g s : List ℤ) (words : ℕ) → check_pumped_with c g s [] words ≡ check_also true (eqb words (state_length c)) true c g s
unfolding check_pumped_with
no_pumps_check_with c g s words = let p = none_pass c in rw (p.few, p.whole, p.fit)

-- no history adds or takes anything
none_added : (h : List (List ℤ)) → added_over [] h ≡ 0
unfolding added_over added_by adds_up_to
none_added [] = refl
none_added (s ∷ h) = rw (none_added h)

none_taken : (h : List (List ℤ)) → taken_over [] h ≡ 0
unfolding taken_over taken_by takes_up_to
none_taken [] = refl
none_taken (s ∷ h) = rw (none_taken h)

-- the run, after any number of the checks
pub no_pumps_after : (k : ℕ) (c : Card) (g s : List ℤ) → pumped_run_after k c g s [] ≡ unpumped (run_after k (site_step c g) c.steps s)
unfolding pumped_run_after reported
no_pumps_after k c g s =
    let h = if_done k (history (pumped_step c g []) c.steps s) [] in
    let o = run_after k (pumped_step c g []) c.steps s in
    (λ i. record { tally = tally_of o.progress (none_added h i) (none_taken h i); state = o.state })
    ∙ ap (λ (step : Stepping). unpumped (run_after k step c.steps s)) (no_pumps_step new_velocity c g)

pub no_pumps_run : (c : Card) (g s : List ℤ) → pumped_run c g s [] ≡ unpumped (run c g s)
unfolding pumped_run run
no_pumps_run c g s = ap (λ (k : ℕ). pumped_run_after k c g s []) (no_pumps_check c g s) ∙ no_pumps_after (check c g s) c g s
