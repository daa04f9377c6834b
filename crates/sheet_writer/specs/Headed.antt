-- What laying a header asks of what it is lent.
use Rattle.std.specs.Prelude.{ℕ, ◌≤◌, List, ◌≡◌, true, length}
use Rattle.rules.specs.declared.Card.{Card}
use Rattle.rules.specs.Site.{card_fits}

-- a card that fits, and room for its header
pub record Headed (c : Card) (l : List ℕ) : Type 0 where
  pub card : card_fits c ≡ true
  pub room : 19 ≤ length l
