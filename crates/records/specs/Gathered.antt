-- What the search over a gathered register answers.
use Rattle.std.specs.Prelude.{◌≡◌, true, false, List, ℕ, ◌≤◌, ◌<◌, ℤ, take, drop}
use Rattle.rules.specs.declared.Card.{Card}
use Rattle.rules.specs.declared.Window.{Window}
use Rattle.rules.specs.declared.Found.{Found}
use Rattle.rules.specs.PublicContracts.{SearchContract}
use Rattle.site.specs.Front.{front_also}

-- what is asked of the search over two lists, of the two parts of a gathered register: the first n places hold x, and the first n from place 1,000 on hold y
abbrev pub PartsContract : (c : Card) (g s both : List ℤ) (n : ℕ) (w : Window) (depth : ℤ) (lent : List ℕ) (r : Found) (left : List ℕ) → Type 0
PartsContract c g s both n w depth lent r left = SearchContract c g s (take n both) (take n (drop 1000 both)) w depth lent r left

-- over 1,000 chambers are refused by their number, unless they are by the card
pub record GatheredAnswer (c : Card) (g s both : List ℤ) (n : ℕ) (w : Window) (depth : ℤ) (lent : List ℕ) (r : Found) (left : List ℕ) : Type 0 where
  pub many : 1000 < n → (r ≡ record { number = front_also true false c g s; count = 0 }) × (left ≡ lent)
  pub few : n ≤ 1000 → PartsContract c g s both n w depth lent r left
