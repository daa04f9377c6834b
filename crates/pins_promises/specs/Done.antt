-- What a call on the pin table does where it is done, and whom it leaves alone.
use Rattle.std.specs.Prelude.{ℕ, ◌≡◌, refl, Bool, true, false, List}
use Rattle.std.proofs.Common.{sym, subst, ltb-true}
use Rattle.laws.specs.Tests.{to_T}
use Rattle.laws.specs.Outcomes.{if_done_lem}
use Rattle.laws.specs.PutIn.{places_same}
use Rattle.pins_rules.specs.Table.{is_crew, is_chamber, pinned, pins_of, with_pin, without_pin}
use Rattle.pins_rules.specs.Calls.{add_number, add_table, remove_number, remove_table}
use Rattle.pins_laws.specs.Words.{crew_is}
use Rattle.pins_laws.specs.Sound.{Left, pin_comes, pin_goes}
use Rattle.pins_laws.specs.Granted.{add_granted, remove_granted}
use Rattle.pins_promises.specs.Histories.{Call, by, after}
use Rattle.pins_promises.specs.OneCall.{others_keep}

-- the crew has this pin now, or has it no more, and every other pin of either crew is as it was
pub record OnePin (table : List ℕ) (crew chamber : ℕ) (has : Bool) (table' : List ℕ) : Type 0 where
  pub this : pinned table' crew chamber ≡ has
  pub others : (whose which : ℕ) → is_crew whose ≡ true → is_chamber which ≡ true → (crew ≡ whose → chamber ≡ which → ⊥) → pinned table' whose which ≡ pinned table whose which

one_pin : {table table' : List ℕ} {crew chamber : ℕ} {has : Bool} → Left table crew chamber has table' → OnePin table crew chamber has table'
one_pin l = record { this = l.this; others = λ whose which k h other. l.others (crew_is (to_T k)) (ltb-true which 1000 h) other }

pub add_pins : (table : List ℕ) (crew chamber : ℕ) → add_number table crew chamber ≡ 0 → OnePin table crew chamber true (add_table table crew chamber)
unfolding add_table
add_pins table crew chamber e =
    let g = add_granted table crew chamber e in
    subst (OnePin table crew chamber true) (sym (if_done_lem (add_number table crew chamber) (with_pin crew chamber table) table e))
    (one_pin (pin_comes g.asked.is_sound g.asked.known g.asked.below g.room g.new))

pub remove_unpins : (table : List ℕ) (crew chamber : ℕ) → remove_number table crew chamber ≡ 0 → OnePin table crew chamber false (remove_table table crew chamber)
unfolding remove_table
remove_unpins table crew chamber e =
    let g = remove_granted table crew chamber e in
    subst (OnePin table crew chamber false) (sym (if_done_lem (remove_number table crew chamber) (without_pin crew chamber table) table e))
    (one_pin (pin_goes g.asked.is_sound g.asked.known g.asked.below g.there))

-- another crew's call, on any table, leaves a crew the pins that it had
pub untouched : (table : List ℕ) (call : Call) (crew : ℕ) → is_crew crew ≡ true → (by call ≡ crew → ⊥) → pins_of (after table call) crew ≡ pins_of table crew
unfolding pins_of
untouched table call crew k other = places_same 1000 (pinned (after table call) crew) (pinned table crew) (λ chamber h. others_keep table call crew chamber other (crew_is (to_T k)) h)
