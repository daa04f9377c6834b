-- The contracts of the calls on the pin table, each as one record of equations: the returned value, and the content at exit of the list that was lent to be
-- written. There is no condition on what is given: refused calls are determined too.
use Rattle.std.specs.Prelude.{ℕ, ◌≡◌, List}
use Rattle.pins_rules.specs.declared.Listing.{Listing}
use Rattle.pins_rules.specs.Calls.{add_number, add_table, remove_number, remove_table, list_answer, list_found}

pub record AddContract (table : List ℕ) (crew chamber number : ℕ) (table_at_exit : List ℕ) : Type 0 where
  pub answer : number ≡ add_number table crew chamber
  pub table_exit : table_at_exit ≡ add_table table crew chamber

pub record RemoveContract (table : List ℕ) (crew chamber number : ℕ) (table_at_exit : List ℕ) : Type 0 where
  pub answer : number ≡ remove_number table crew chamber
  pub table_exit : table_at_exit ≡ remove_table table crew chamber

pub record ListContract (table : List ℕ) (crew : ℕ) (found : List ℕ) (answered : Listing) (found_at_exit : List ℕ) : Type 0 where
  pub answer : answered ≡ list_answer table crew found
  pub found_exit : found_at_exit ≡ list_found table crew found
