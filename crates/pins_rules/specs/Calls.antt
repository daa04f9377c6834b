-- Document 02, [13]: of every call on the pin table, what it returns and what each lent list holds at exit, for every input.
-- `first_refusal` puts a later number behind an earlier one; `if_done` says what is left where the number is 0, and where not (rules, Site.antt).
use Rattle.std.specs.Prelude.{ℕ, Bool, cond, not, ◌&&◌, List, ◌++◌, length, drop, ltb, eqb}
use Rattle.rules.specs.Site.{first_refusal, if_done}
use Rattle.pins_rules.specs.declared.Listing.{Listing}
use Rattle.pins_rules.specs.Table.{is_crew, is_chamber, pinned, held, pins_of, table_fits, with_pin, without_pin}

-- a refusal's number, unless its test passes
abbrev pub unless : (passes : Bool) (number : ℕ) → ℕ
unless passes number = cond passes 0 number

-- ---- What every call asks, in this order: 2 for another length, 3 for a bad table, 11 for an unknown crew

unfoldable pub crew_number : (lengths : Bool) (table : List ℕ) (crew : ℕ) → ℕ
crew_number lengths table crew = first_refusal (unless lengths 2) (first_refusal (unless (table_fits table) 3) (unless (is_crew crew) 11))

-- where one chamber is named: then 12 for a chamber that is none
unfoldable pub chamber_number : (table : List ℕ) (crew chamber : ℕ) → ℕ
chamber_number table crew chamber = first_refusal (crew_number (eqb (length table) 64) table crew) (unless (is_chamber chamber) 12)

-- ---- Add: then 13 where this crew has that pin already, 14 where it has 32. Refused: table as lent.

unfoldable pub add_number : (table : List ℕ) (crew chamber : ℕ) → ℕ
add_number table crew chamber =
    first_refusal (chamber_number table crew chamber)
    (first_refusal (unless (not (pinned table crew chamber)) 13) (unless (ltb (held crew table) 32) 14))

unfoldable pub add_table : (table : List ℕ) (crew chamber : ℕ) → List ℕ
add_table table crew chamber = if_done (add_number table crew chamber) (with_pin crew chamber table) table

-- ---- Remove: then 13 where this crew has no such pin. Refused: table as lent.

unfoldable pub remove_number : (table : List ℕ) (crew chamber : ℕ) → ℕ
remove_number table crew chamber = first_refusal (chamber_number table crew chamber) (unless (pinned table crew chamber) 13)

unfoldable pub remove_table : (table : List ℕ) (crew chamber : ℕ) → List ℕ
remove_table table crew chamber = if_done (remove_number table crew chamber) (without_pin crew chamber table) table

-- ---- List: the count, and the crew's pins in register order at the front of a list of 32, the rest as lent. Refused: count 0, list as lent.

unfoldable pub list_number : (table : List ℕ) (crew : ℕ) (found : List ℕ) → ℕ
list_number table crew found = crew_number (eqb (length table) 64 && eqb (length found) 32) table crew

unfoldable pub list_answer : (table : List ℕ) (crew : ℕ) (found : List ℕ) → Listing
list_answer table crew found = record {
  number = list_number table crew found;
  count = if_done (list_number table crew found) (length (pins_of table crew)) 0;
}

unfoldable pub list_found : (table : List ℕ) (crew : ℕ) (found : List ℕ) → List ℕ
list_found table crew found = if_done (list_number table crew found) (pins_of table crew ++ drop (length (pins_of table crew)) found) found
