-- Demand 3, read field by field: a site that passes the first three checks and is turned passes them too, runs for as many steps, stops for the same reason,
-- has the same top, has as much added and taken, and ends in the first run's end state turned. First of the run, then of the public call.
use Rattle.std.specs.Prelude.{◌≡◌, List, ℤ, length}
use Rattle.std.proofs.Common.{sym, ap, ◌∙◌}
use Rattle.rules.specs.declared.Card.{Card}
use Rattle.rules.specs.Pumps.{check_pumped, PumpedOutcome, pumped_run}
use Rattle.rules.specs.Turn.{Turn, turned_pumps, turned}
use Rattle.rules.specs.Calls.{run_outcome, run_tally, run_state}
use Rattle.promises.specs.Turning.{Lawful}
use Rattle.promises.specs.TurnedRuns.{turned_passes, obeys}
use Rattle.promises.specs.TheCall.{call_runs}

-- the run of a site with its pumps, turned
abbrev pub turned_run : Turn → Card → (land state pumps : List ℤ) → PumpedOutcome
turned_run t c g s ps = pumped_run (t.card c) (t.land c g) (t.state c s) (turned_pumps t c ps)

pub record TurnsTheRun (t : Turn) (c : Card) (g s ps : List ℤ) : Type 0 where
  pub passes : check_pumped (t.card c) (t.land c g) (t.state c s) (turned_pumps t c ps) ≡ 0
  pub same_steps : (turned_run t c g s ps).tally.steps ≡ (pumped_run c g s ps).tally.steps
  pub same_reason : (turned_run t c g s ps).tally.reason ≡ (pumped_run c g s ps).tally.reason
  pub same_top : (turned_run t c g s ps).tally.top ≡ (pumped_run c g s ps).tally.top
  pub same_added : (turned_run t c g s ps).tally.added ≡ (pumped_run c g s ps).tally.added
  pub same_taken : (turned_run t c g s ps).tally.taken ≡ (pumped_run c g s ps).tally.taken
  pub end_turned : (turned_run t c g s ps).state ≡ t.state c (pumped_run c g s ps).state

pub turns_the_run : (t : Turn) → Lawful t → (c : Card) (g s ps : List ℤ) → check_pumped c g s ps ≡ 0 → TurnsTheRun t c g s ps
turns_the_run t 𝓛 c g s ps e =
    let same = obeys t 𝓛 c g s ps e in
    record {
      passes = turned_passes t 𝓛 c g s ps e;
      same_steps = ap (λ (o : PumpedOutcome). o.tally.steps) same;
      same_reason = ap (λ (o : PumpedOutcome). o.tally.reason) same;
      same_top = ap (λ (o : PumpedOutcome). o.tally.top) same;
      same_added = ap (λ (o : PumpedOutcome). o.tally.added) same;
      same_taken = ap (λ (o : PumpedOutcome). o.tally.taken) same;
      end_turned = ap (λ (o : PumpedOutcome). o.state) same;
    }

-- the public call on the turned site with the turned pumps, lent a scratch list of its own: the same tally, and at exit the state turned
pub record TurnsTheCall (t : Turn) (c : Card) (g s ps scratch turned_scratch : List ℤ) : Type 0 where
  pub same_tally : run_tally (t.card c) (t.land c g) (t.state c s) (turned_pumps t c ps) turned_scratch ≡ run_tally c g s ps scratch
  pub state_turned : run_state (t.card c) (t.land c g) (t.state c s) (turned_pumps t c ps) turned_scratch ≡ t.state c (run_state c g s ps scratch)

pub turns_the_call : (t : Turn) → Lawful t → (c : Card) (g s ps scratch turned_scratch : List ℤ) → check_pumped c g s ps ≡ 0
    → length scratch ≡ length s → length turned_scratch ≡ length (t.state c s)
    → TurnsTheCall t c g s ps scratch turned_scratch
unfolding run_tally run_state
turns_the_call t 𝓛 c g s ps scratch turned_scratch e p q =
    let qs = turned_pumps t c ps in
    let same : run_outcome (t.card c) (t.land c g) (t.state c s) qs turned_scratch ≡ turned t c (run_outcome c g s ps scratch) =
    call_runs (t.card c) (t.land c g) (t.state c s) qs turned_scratch q ∙ obeys t 𝓛 c g s ps e ∙ ap (turned t c) (sym (call_runs c g s ps scratch p)) in
    record { same_tally = ap (λ (o : PumpedOutcome). o.tally) same; state_turned = ap (λ (o : PumpedOutcome). o.state) same }
