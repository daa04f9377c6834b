-- What the check of the walls may rest on.
use Rattle.std.specs.Prelude.{◌≡◌, true, List, ℤ, length}
use Rattle.rules.specs.declared.Card.{Card}
use Rattle.rules.specs.Site.{card_fits, state_length}

-- a state as long as the card asks for
pub record Whole (c : Card) (s : List ℤ) : Type 0 where
  pub card : card_fits c ≡ true
  pub words : length s ≡ state_length c
