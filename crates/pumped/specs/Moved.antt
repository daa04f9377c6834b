-- What one pumped step of a sound site requires of its lists, and what it gives.
use Rattle.std.specs.Prelude.{◌≤◌, ◌≡◌, List, ℤ, length, Result, Ok, Err}
use Rattle.rules.specs.declared.Card.{Card}
use Rattle.rules.specs.declared.refusals.Refusal.{Refusal}
use Rattle.rules.specs.Refusals.{refusal_number}
use Rattle.rules.specs.Site.{state_length}
use Rattle.rules.specs.Step.{Rule}
use Rattle.rules.specs.Pumps.{pumped_step_by, added_by, taken_by}
use Rattle.laws.specs.Facts.{Sound}
use Rattle.laws.specs.PumpChecks.{PumpsPass}
use Rattle.pumps.specs.declared.Acted.{Acted}

-- a sound site with pumps that pass, room for the heights that they find, a tide and a next state
pub record PumpedRoom (c : Card) (g s ps found t n : List ℤ) : Type 0 where
  pub sound : Sound c g s
  pub pumps : PumpsPass c ps
  pub room : 64 ≤ length found
  pub tide : length t ≡ state_length c
  pub next : length n ≡ state_length c

-- done: the next state, what was added and what was taken. In a tally there is always room for both numbers.
pub record Moved (rule : Rule) (c : Card) (g ps s : List ℤ) (acted : Acted) (n : List ℤ) : Type 0 where
  pub number : 0 ≡ (pumped_step_by rule c g ps).number s
  pub state : n ≡ (pumped_step_by rule c g ps).next s
  pub added : acted.added ≡ added_by ps
  pub taken : acted.taken ≡ taken_by ps s
  pub few_added : acted.added ≤ 64000000
  pub few_taken : acted.taken ≤ 64000000

-- refused: the number, and the state as it was
pub record NotMoved (rule : Rule) (c : Card) (g ps s : List ℤ) (refusal : Refusal) (s' : List ℤ) : Type 0 where
  pub number : refusal_number refusal ≡ (pumped_step_by rule c g ps).number s
  pub undone : s' ≡ s

abbrev pub PumpedAdvanced : (rule : Rule) (c : Card) (g ps s : List ℤ) (r : Result Acted Refusal) (s' n : List ℤ) → Type 0
PumpedAdvanced rule c g ps s (Ok acted) s' n = Moved rule c g ps s acted n
PumpedAdvanced rule c g ps s (Err refusal) s' n = NotMoved rule c g ps s refusal s'
