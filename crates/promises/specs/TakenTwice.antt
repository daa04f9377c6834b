-- A turn that loses nothing: taken twice it gives the card, every cell of the site, and every ground and state of the right length, back.
use Rattle.std.specs.Prelude.{ℕ, ◌<◌, ◌≡◌, List, ℤ, length}
use Rattle.rules.specs.declared.Card.{Card}
use Rattle.rules.specs.Site.{cells, state_length}
use Rattle.rules.specs.Turn.{Turn}

pub record GivesBack (t : Turn) : Type 0 where
  pub card : (c : Card) → t.card (t.card c) ≡ c
  pub cell : (c : Card) (k : ℕ) → k < cells c → t.cell (t.card c) (t.cell c k) ≡ k
  pub land : (c : Card) (g : List ℤ) → length g ≡ cells c → t.land (t.card c) (t.land c g) ≡ g
  pub state : (c : Card) (s : List ℤ) → length s ≡ state_length c → t.state (t.card c) (t.state c s) ≡ s
