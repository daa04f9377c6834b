-- A history of calls on one pin table, which is lent whole to each of them: what each call answers, which table it leaves, and what a history answers to one crew.
-- Answers and tables are those that the contracts fix (pins_rules, Calls.antt), refused calls too.
use Rattle.std.specs.Prelude.{ℕ, cond, List, [], ◌∷◌, eqb}
use Rattle.pins_rules.specs.declared.Listing.{Listing}
use Rattle.pins_rules.specs.Calls.{add_number, add_table, remove_number, remove_table, list_answer, list_found}

-- a call: whose it is, and the chamber; of a listing, the list that is lent for it, whatever its length and whatever it holds
pub data Call : Type 0 where
  add : (crew chamber : ℕ) → Call
  remove : (crew chamber : ℕ) → Call
  list : (crew : ℕ) (found : List ℕ) → Call

-- all that a caller gets to see of it: the number; of a listing number and count, and all that the lent list then holds
pub data Answer : Type 0 where
  said : (number : ℕ) → Answer
  listed : (answered : Listing) (found : List ℕ) → Answer

unfoldable pub by : Call → ℕ
by (add crew chamber) = crew
by (remove crew chamber) = crew
by (list crew found) = crew

unfoldable pub answer : (table : List ℕ) → Call → Answer
answer table (add crew chamber) = said (add_number table crew chamber)
answer table (remove crew chamber) = said (remove_number table crew chamber)
answer table (list crew found) = listed (list_answer table crew found) (list_found table crew found)

unfoldable pub after : (table : List ℕ) → Call → List ℕ
after table (add crew chamber) = add_table table crew chamber
after table (remove crew chamber) = remove_table table crew chamber
after table (list crew found) = table

-- ---- A history is a list of calls, the earliest first

-- the table that it leaves
unfoldable pub table_after : (table : List ℕ) (history : List Call) → List ℕ
table_after table [] = table
table_after table (call ∷ later) = table_after (after table call) later

-- one crew's calls in it, in their order
unfoldable pub calls_of : (crew : ℕ) (history : List Call) → List Call
calls_of crew [] = []
calls_of crew (call ∷ later) = cond (eqb (by call) crew) (call ∷ calls_of crew later) (calls_of crew later)

-- all that it answers to one crew, in the order of that crew's calls
unfoldable pub answers_to : (crew : ℕ) (table : List ℕ) (history : List Call) → List Answer
answers_to crew table [] = []
answers_to crew table (call ∷ later) =
    cond (eqb (by call) crew) (answer table call ∷ answers_to crew (after table call) later) (answers_to crew (after table call) later)
