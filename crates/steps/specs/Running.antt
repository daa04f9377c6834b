-- What the steps of a run require of their lists, and how they end.
use Rattle.std.specs.Prelude.{◌≡◌, List, ℤ, length}
use Rattle.rules.specs.declared.Card.{Card}
use Rattle.rules.specs.declared.Tally.{Tally}
use Rattle.rules.specs.Site.{state_length}
use Rattle.rules.specs.Run.{OutcomeOf, run_from}
use Rattle.rules.specs.Pumps.{pumped_step, PumpedOutcome}
use Rattle.laws.specs.Facts.{Sound}
use Rattle.laws.specs.PumpChecks.{PumpsPass}
use Rattle.laws.specs.Counting.{Counted, uncounted, told, counting}

-- a sound site with pumps that pass, a scratch list and a tide as long as its state
pub record RunRoom (c : Card) (land state pumps scratch tide : List ℤ) : Type 0 where
  pub sound : Sound c land state
  pub pass : PumpsPass c pumps
  pub state_long : length state ≡ state_length c
  pub scratch_long : length scratch ≡ state_length c
  pub tide_long : length tide ≡ state_length c

-- the run of such a site, by the step that counts what its pumps add and take (laws, Counting.antt)
abbrev pub counted_run : Card → (land state pumps : List ℤ) → OutcomeOf Counted
counted_run c g s ps = run_from (counting ps (pumped_step c g ps)) c.steps (uncounted s)

abbrev pub told_run : Card → (land state pumps : List ℤ) → PumpedOutcome
told_run c g s ps = told (counted_run c g s ps)

-- an outcome as a tally and a state
pub record Ended (o : PumpedOutcome) (tally : Tally) (state : List ℤ) : Type 0 where
  pub tallied : tally ≡ o.tally
  pub left : state ≡ o.state
