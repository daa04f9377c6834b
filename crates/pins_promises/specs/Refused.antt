-- A refused call leaves what was lent as it was.
use Rattle.std.specs.Prelude.{ℕ, ◌≡◌, List}
use Rattle.laws.specs.Outcomes.{if_refused}
use Rattle.pins_rules.specs.Calls.{add_number, add_table, remove_number, remove_table, list_answer, list_found}

pub add_refused : (table : List ℕ) (crew chamber : ℕ) → (add_number table crew chamber ≡ 0 → ⊥) → add_table table crew chamber ≡ table
unfolding add_table
add_refused table crew chamber h = if_refused _ _ _ h

pub remove_refused : (table : List ℕ) (crew chamber : ℕ) → (remove_number table crew chamber ≡ 0 → ⊥) → remove_table table crew chamber ≡ table
unfolding remove_table
remove_refused table crew chamber h = if_refused _ _ _ h

pub list_refused : (table : List ℕ) (crew : ℕ) (found : List ℕ) → ((list_answer table crew found).number ≡ 0 → ⊥) → (list_found table crew found ≡ found) × ((list_answer table crew found).count ≡ 0)
unfolding list_answer list_found
list_refused table crew found h = (if_refused _ _ _ h, if_refused _ _ _ h)
