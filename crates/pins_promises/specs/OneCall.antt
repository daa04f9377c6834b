-- What one call leaves of a table: a sound one sound, and to every other crew the pins that it had.
use Rattle.std.specs.Prelude.{ℕ, ◌<◌, ◌≡◌, refl, List}
use Rattle.laws.specs.Outcomes.{if_either}
use Rattle.pins_rules.specs.Table.{pinned, with_pin, without_pin}
use Rattle.pins_rules.specs.Calls.{add_number, add_table, remove_number, remove_table}
use Rattle.pins_laws.specs.Words.{Crew}
use Rattle.pins_laws.specs.Sound.{Sound, pin_comes, pin_goes}
use Rattle.pins_laws.specs.Granted.{add_granted, remove_granted}
use Rattle.pins_promises.specs.Histories.{Call, add, remove, list, by, after}

-- a call leaves a sound table: it is refused, and the table stays, or the one pin came or went
pub stays_sound : (table : List ℕ) (call : Call) → Sound table → Sound (after table call)
unfolding after add_table remove_table
stays_sound table (add crew chamber) s =
    if_either Sound (add_number table crew chamber) (with_pin crew chamber table) table
    (λ e. let g = add_granted table crew chamber e in (pin_comes s g.asked.known g.asked.below g.room g.new).still_sound) s
stays_sound table (remove crew chamber) s =
    if_either Sound (remove_number table crew chamber) (without_pin crew chamber table) table
    (λ e. let g = remove_granted table crew chamber e in (pin_goes s g.asked.known g.asked.below g.there).still_sound) s
stays_sound table (list crew found) s = s

-- another crew's call: this crew's pins stay
pub others_keep : (table : List ℕ) (call : Call) (crew chamber : ℕ) → (by call ≡ crew → ⊥) → Crew crew → chamber < 1000 → pinned (after table call) crew chamber ≡ pinned table crew chamber
unfolding after by add_table remove_table
others_keep table (add whose which) crew chamber other k h =
    if_either (λ t. pinned t crew chamber ≡ pinned table crew chamber) (add_number table whose which) (with_pin whose which table) table
    (λ e. let g = add_granted table whose which e in (pin_comes g.asked.is_sound g.asked.known g.asked.below g.room g.new).others k h (λ same _. other same)) refl
others_keep table (remove whose which) crew chamber other k h =
    if_either (λ t. pinned t crew chamber ≡ pinned table crew chamber) (remove_number table whose which) (without_pin whose which table) table
    (λ e. let g = remove_granted table whose which e in (pin_goes g.asked.is_sound g.asked.known g.asked.below g.there).others k h (λ same _. other same)) refl
others_keep table (list whose found) crew chamber other k h = refl
