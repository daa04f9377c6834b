-- What a step with lists of its own requires, and what it hands over.
use Rattle.std.specs.Prelude.{◌≡◌, List, ℕ, ◌≤◌, ℤ, length}
use Rattle.rules.specs.declared.Card.{Card}
use Rattle.rules.specs.Site.{if_done}
use Rattle.rules.specs.Run.{Stepping}
use Rattle.laws.specs.Facts.{SoundWith}
use Rattle.laws.specs.PumpChecks.{PumpsPass}

-- a sound site, a next state as long as its state, and room for it in a tide and a draft
pub record Drafting (c : Card) (g s t d n : List ℤ) : Type 0 where
  pub site : SoundWith c g s n
  pub tide : length n ≤ length t
  pub draft : length n ≤ length d

-- with pumps that pass, room for it in a copy too
pub record PumpedDrafting (c : Card) (g s ps copy t d n : List ℤ) : Type 0 where
  pub drafting : Drafting c g s t d n
  pub pumps : PumpsPass c ps
  pub copy_room : length n ≤ length copy

-- the step's number, and what is left in the list that was lent for the next state: that, where the number is 0, and else the list as it was
pub record Handed (step : Stepping) (s lent : List ℤ) (r : ℕ) (n : List ℤ) : Type 0 where
  pub answer : r ≡ step.number s
  pub next_exit : n ≡ if_done (step.number s) (step.next s) lent
