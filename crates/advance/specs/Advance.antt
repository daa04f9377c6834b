-- What one step of a sound site requires of its lists, and what it gives.
use Rattle.std.specs.Prelude.{◌≡◌, Bool, true, List, ℕ, ℤ, length}
use Rattle.rules.specs.declared.Card.{Card}
use Rattle.rules.specs.Site.{read_state, state_length}
use Rattle.rules.specs.Step.{Rule, limit_kept, step_number_by, next_state_by}
use Rattle.laws.specs.Facts.{Sound}
use Rattle.still.specs.Marks.{Marked}

-- a tide and a next state, both in the state's layout
pub record StepRoom (c : Card) (g s t n : List ℤ) : Type 0 where
  pub sound : Sound c g s
  pub tide : length t ≡ state_length c
  pub next : length n ≡ state_length c

-- and the marks of the still rows
pub record MarkedRoom (c : Card) (g s : List ℤ) (marks : List Bool) (t n : List ℤ) : Type 0 where
  pub room : StepRoom c g s t n
  pub marked : Marked c s marks

-- where each cell keeps the step limit
pub record LimitedRoom (c : Card) (g s : List ℤ) (marks : List Bool) (t n : List ℤ) : Type 0 where
  pub sound : Sound c g s
  pub marked : Marked c s marks
  pub limit : limit_kept c (read_state c s) ≡ true
  pub tide : length t ≡ state_length c
  pub next : length n ≡ state_length c

-- a next state, and the marks of the still rows
pub record NextRoom (c : Card) (s : List ℤ) (marks : List Bool) (n : List ℤ) : Type 0 where
  pub marked : Marked c s marks
  pub long : length n ≡ state_length c

-- its number, and where that is 0, its next state, by a rule for new velocities
pub record Advanced (rule : Rule) (c : Card) (g s : List ℤ) (r : ℕ) (n : List ℤ) : Type 0 where
  pub number : r ≡ step_number_by rule c g s
  pub state : r ≡ 0 → n ≡ next_state_by rule c g s
