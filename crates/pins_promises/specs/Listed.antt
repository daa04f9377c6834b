-- A listing, read off the definitions: sound, complete and rising, as many as the crew has pins and never over 32, and the lent list as long as it was.
use Rattle.std.specs.Prelude.{ℕ, ◌≤◌, ◌<◌, ◌≡◌, refl, true, List, ◌++◌, length, get_or, drop}
use Rattle.std.proofs.Common.{◌∙◌, arith, length-append, length-drop}
use Rattle.laws.specs.Outcomes.{if_done_lem, if_either}
use Rattle.laws.specs.Rising.{Rising, rising, sound, complete}
use Rattle.pins_rules.specs.Table.{pinned, held, pins_of}
use Rattle.pins_rules.specs.Calls.{list_number, list_answer, list_found}
use Rattle.pins_laws.specs.Counts.{as_many_as_held}
use Rattle.pins_laws.specs.Granted.{list_granted}

-- of any table: what is listed is pinned by this crew, all that it has pinned is listed, and chambers rise, so that none is listed twice
pub record Lists (table : List ℕ) (crew : ℕ) (pins : List ℕ) : Type 0 where
  pub only : (i : ℕ) → i < length pins → (get_or pins i 0 < 1000) × (pinned table crew (get_or pins i 0) ≡ true)
  pub all : (chamber : ℕ) → chamber < 1000 → pinned table crew chamber ≡ true → (i : ℕ) × ((i < length pins) × (get_or pins i 0 ≡ chamber))
  pub rise : Rising pins

pub lists : (table : List ℕ) (crew : ℕ) → Lists table crew (pins_of table crew)
unfolding pins_of
lists table crew = record { only = sound (pinned table crew) 1000; all = complete (pinned table crew) 1000; rise = rising (pinned table crew) 1000 }

-- the count of a listing that is done: as many as the crew has pins, and never over 32
pub counts : (table : List ℕ) (crew : ℕ) (found : List ℕ) → (list_answer table crew found).number ≡ 0 → ((list_answer table crew found).count ≡ held crew table) × (held crew table ≤ 32)
unfolding list_answer
counts table crew found e =
    let g = list_granted table crew found e in
    (if_done_lem _ _ _ e ∙ as_many_as_held crew g.known table g.is_sound.words g.is_sound.once, g.is_sound.few g.known)

pub as_long_as_lent : (table : List ℕ) (crew : ℕ) (found : List ℕ) → length (list_found table crew found) ≡ length found
unfolding list_found
as_long_as_lent table crew found =
    if_either (λ l. length l ≡ length found) (list_number table crew found) (pins_of table crew ++ drop (length (pins_of table crew)) found) found
    (λ e.
    let g = list_granted table crew found e in
    let many = as_many_as_held crew g.known table g.is_sound.words g.is_sound.once in
    let few = g.is_sound.few g.known in
    let room = g.room in
    simp (length-append, length-drop) (omega arith))
    refl
