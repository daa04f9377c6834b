-- What a call on the pin table answers and leaves: refused, as lent; done, what its definition says.
use Prim.Native.Nat.{ℕ}
use mathlib.Core.Path.{◌≡◌, sym, ◌∙◌, ap₂}
use mathlib.Core.List.{List}
use Rattle.laws.specs.Outcomes.{if_done_lem, if_refused}
use Rattle.laws.specs.Listings.{Listed}
use Rattle.pins_rules.specs.declared.Listing.{Listing}
use Rattle.pins_rules.specs.Table.{with_pin, without_pin, pins_of}
use Rattle.pins_rules.specs.Calls.{add_number, add_table, remove_number, remove_table, list_number, list_answer, list_found}
use Rattle.pins_rules.specs.PublicContracts.{AddContract, RemoveContract, ListContract}

module _ {table : List ℕ} {crew chamber : ℕ} where
  pub add_refused : {number : ℕ} → number ≡ add_number table crew chamber → (number ≡ 0 → ⊥) → AddContract table crew chamber number table
  unfolding add_table
  add_refused e h = record { answer = e; table_exit = sym (if_refused (add_number table crew chamber) _ table (λ z. h (e ∙ z))) }

  pub add_done : {left : List ℕ} → add_number table crew chamber ≡ 0 → left ≡ with_pin crew chamber table → AddContract table crew chamber 0 left
  unfolding add_table
  add_done e is = record { answer = sym e; table_exit = is ∙ sym (if_done_lem (add_number table crew chamber) _ table e) }

  pub remove_refused : {number : ℕ} → number ≡ remove_number table crew chamber → (number ≡ 0 → ⊥) → RemoveContract table crew chamber number table
  unfolding remove_table
  remove_refused e h = record { answer = e; table_exit = sym (if_refused (remove_number table crew chamber) _ table (λ z. h (e ∙ z))) }

  pub remove_done : {left : List ℕ} → remove_number table crew chamber ≡ 0 → left ≡ without_pin crew chamber table → RemoveContract table crew chamber 0 left
  unfolding remove_table
  remove_done e is = record { answer = sym e; table_exit = is ∙ sym (if_done_lem (remove_number table crew chamber) _ table e) }

answered : (number count : ℕ) → Listing
answered number count = record { number = number; count = count }

module _ {table : List ℕ} {crew : ℕ} {found : List ℕ} where
  pub list_refused : {number : ℕ} → number ≡ list_number table crew found → (number ≡ 0 → ⊥) → ListContract table crew found (record { number = number; count = 0 }) found
  unfolding answered list_answer list_found
  list_refused e h = record {
    answer = ap₂ answered e (sym (if_refused (list_number table crew found) _ 0 (λ z. h (e ∙ z))));
    found_exit = sym (if_refused (list_number table crew found) _ found (λ z. h (e ∙ z)));
  }

  pub list_done : {count : ℕ} {left : List ℕ} → list_number table crew found ≡ 0 → Listed (pins_of table crew) found count left → ListContract table crew found (record { number = 0; count = count }) left
  unfolding answered list_answer list_found
  list_done e l = record {
    answer = ap₂ answered (sym e) (l.counted ∙ sym (if_done_lem (list_number table crew found) _ 0 e));
    found_exit = l.laid ∙ sym (if_done_lem (list_number table crew found) _ found e);
  }
