-- What follows from the pin table's rules. Read this file first: it states each promise, or names the file that states it.
-- Nothing is assumed but what a promise says before its last arrow. Two theorems are proved in proofs/: `own_calls_only`, of the statement below (Promises.antt there),
-- and `undisturbed` (Done.antt there).
use Rattle.std.specs.Prelude.{ℕ, ◌≡◌, List}
use Rattle.pins_rules.specs.Table.{empty}
use Rattle.pins_promises.specs.Histories.{Call, calls_of, answers_to}
-- of each public call: any two outcomes that its contract allows are equal, refused calls too
pub use Rattle.pins_promises.specs.OneOutcome.{one_add, one_remove, one_list}
-- a refused call leaves the table, or the lent list, as it was, and a refused listing has count 0
pub use Rattle.pins_promises.specs.Refused.{add_refused, remove_refused, list_refused}
-- what a call that is done does: the crew has the pin, or has it no more, and every other pin of either crew is as it was; and another crew's call takes no pin from
-- a crew and gives it none, on any table, and on a table that passes changes no answer to it
pub use Rattle.pins_promises.specs.Done.{add_pins, remove_unpins, untouched}
-- a listing: sound, complete and rising, as many as the crew has pins and never over 32, and the lent list as long as it was
pub use Rattle.pins_promises.specs.Listed.{lists, counts, as_long_as_lent}
-- a table that passes passes after every call, so that no call finds fault with one which calls made from an empty table, however long its history; an add with
-- room for the crew always finds a place, however many pins the other crew has; and without room it is refused with 14
pub use Rattle.pins_promises.specs.ForEver.{passes_after, passes_for_ever, never_refused_for_its_table, finds_a_place, adds_with_room, refused_without_room}
-- on numbers, two histories with the same calls of crew 1, in which its pin stands in another place and the table has another number of pins
pub use Rattle.pins_promises.specs.Shown.{place_and_count_differ}

-- ---- The theorem that crews rely on: from an empty table, a crew's answers depend on its own calls only

-- Over any two histories in which this crew's calls are the same, whatever other crews call in between, all that it is answered is the same: every number, refused
-- calls too, every count, and all that a listing leaves in the lent list.
-- So no answer shows a place in the table, nor a count that crews share. Both change with what the other crew calls, of which the two histories may have anything
-- or nothing: an answer that showed one of them would differ between two such histories (`place_and_count_differ` has two), and the statement would be false of them.
abbrev pub OwnCallsOnly : Type 0
OwnCallsOnly = (crew : ℕ) → (history other : List Call) → calls_of crew history ≡ calls_of crew other → answers_to crew empty history ≡ answers_to crew empty other
