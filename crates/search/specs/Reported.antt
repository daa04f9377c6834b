-- What the search reports once the checks have passed, and what it may rest on.
use Rattle.std.specs.Prelude.{◌≡◌, cond, List, ◌++◌, ℕ, leb, ℤ, length, drop}
use Rattle.rules.specs.declared.Card.{Card}
use Rattle.rules.specs.declared.Window.{Window}
use Rattle.rules.specs.declared.Found.{Found}
use Rattle.rules.specs.Search.{list_of}
use Rattle.register.specs.Checked.{Checked}

-- the register and a draft that takes all of its places
pub record DraftRoom (c : Card) (s xs ys : List ℤ) (depth : ℤ) (draft : List ℕ) : Type 0 where
  pub checked : Checked c s xs ys depth
  pub draft_long : length draft ≡ 1000

-- what is answered once the checks have passed: 0 and the list, or 8 and the list as lent, and the count in both cases
pub record Reported (c : Card) (s xs ys : List ℤ) (w : Window) (depth : ℤ) (lent : List ℕ) (r : Found) (left : List ℕ) : Type 0 where
  pub number : r.number ≡ cond {A = ℕ} (leb (length (list_of c s w depth xs ys)) (length lent)) 0 8
  pub count : r.count ≡ length (list_of c s w depth xs ys)
  pub list : left ≡ cond (leb (length (list_of c s w depth xs ys)) (length lent)) (list_of c s w depth xs ys ++ drop (length (list_of c s w depth xs ys)) lent) lent
