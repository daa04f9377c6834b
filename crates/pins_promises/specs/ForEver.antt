-- A table that the calls made passes for ever, and a crew with room always finds a place in it.
use Rattle.std.specs.Prelude.{ℕ, zero, suc, ◌<◌, ◌≡◌, Bool, true, false, not, ◌&&◌, List, [], ◌∷◌, length, ltb}
use Rattle.std.proofs.Common.{sym, ◌∙◌, arith, eq-eqb, lt-ltb}
use Rattle.std.proofs.Math.Dec.{eqb}
use Rattle.rules.specs.Site.{first_refusal}
use Rattle.laws.specs.Tests.{true_of, to_T}
use Rattle.pins_rules.specs.Table.{free, is_crew, is_chamber, stands, pinned, held, empty, table_fits}
use Rattle.pins_rules.specs.Calls.{unless, chamber_number, add_number, remove_number, list_number, list_answer}
use Rattle.pins_laws.specs.Words.{crew_is}
use Rattle.pins_laws.specs.Sound.{Sound, sound, passes, empty_sound, room_finds_a_place}
use Rattle.pins_laws.specs.Granted.{sound_crew, sound_sized, sound_chamber}
use Rattle.pins_promises.specs.Histories.{Call, after, table_after}
use Rattle.pins_promises.specs.OneCall.{stays_sound}

-- 64 words, and none of refusal 3's faults
pub record Passes (table : List ℕ) : Type 0 where
  pub sized : length table ≡ 64
  pub fits : table_fits table ≡ true

sound_after : (table : List ℕ) (history : List Call) → Sound table → Sound (table_after table history)
unfolding table_after
sound_after table [] s = s
sound_after table (call ∷ later) s = sound_after (after table call) later (stays_sound table call s)

-- it is sound, and a sound one passes
pub passing_sound : {table : List ℕ} → Passes table → Sound table
passing_sound {table} p = sound table p.sized (to_T p.fits)

sound_passing : {table : List ℕ} → Sound table → Passes table
sound_passing s = record { sized = s.sized; fits = passes s }

pub passes_after : (table : List ℕ) (history : List Call) → Passes table → Passes (table_after table history)
passes_after table history p = sound_passing (sound_after table history (passing_sound p))

pub passes_for_ever : (history : List Call) → Passes (table_after empty history)
passes_for_ever history = passes_after empty history (sound_passing empty_sound)

-- ---- so no call finds fault with such a table

first_never : (k n m : ℕ) → (k ≡ m → ⊥) → (n ≡ m → ⊥) → first_refusal k n ≡ m → ⊥
unfolding first_refusal
first_never zero n m f g e = g e
first_never (suc k) n m f g e = f e

unless_never : (b : Bool) (n m : ℕ) → (0 ≡ m → ⊥) → (n ≡ m → ⊥) → unless b n ≡ m → ⊥
unless_never true n m f g e = f e
unless_never false n m f g e = g e

-- neither 2 nor 3, but 2 for a list of another length than 32 that is lent for a listing
pub record Trusted (table : List ℕ) : Type 0 where
  pub adding : (crew chamber : ℕ) → (add_number table crew chamber ≡ 2 → ⊥) × (add_number table crew chamber ≡ 3 → ⊥)
  pub removing : (crew chamber : ℕ) → (remove_number table crew chamber ≡ 2 → ⊥) × (remove_number table crew chamber ≡ 3 → ⊥)
  pub listing : (crew : ℕ) (found : List ℕ) → (length found ≡ 32 → (list_answer table crew found).number ≡ 2 → ⊥) × ((list_answer table crew found).number ≡ 3 → ⊥)

-- a number from 1 to 10: no call on a sound table gives it, but a listing 2 for its list
module _ {table : List ℕ} (s : Sound table) (n : ℕ) (least : 0 < n) (most : n < 11) where
  never_chamber : (crew chamber : ℕ) → chamber_number table crew chamber ≡ n → ⊥
  never_chamber crew chamber e = first_never (unless (is_crew crew) 11) (unless (is_chamber chamber) 12) n
      (unless_never (is_crew crew) 11 n (λ z. omega arith) (λ z. omega arith)) (unless_never (is_chamber chamber) 12 n (λ z. omega arith) (λ z. omega arith))
      (sym (sound_chamber crew chamber s) ∙ e)

  never_adding : (crew chamber : ℕ) → add_number table crew chamber ≡ n → ⊥
  unfolding add_number
  never_adding crew chamber = first_never (chamber_number table crew chamber) _ n (never_chamber crew chamber)
      (first_never (unless (not (pinned table crew chamber)) 13) (unless (ltb (held crew table) 32) 14) n
      (unless_never (not (pinned table crew chamber)) 13 n (λ z. omega arith) (λ z. omega arith)) (unless_never (ltb (held crew table) 32) 14 n (λ z. omega arith) (λ z. omega arith)))

  never_removing : (crew chamber : ℕ) → remove_number table crew chamber ≡ n → ⊥
  unfolding remove_number
  never_removing crew chamber = first_never (chamber_number table crew chamber) _ n (never_chamber crew chamber)
      (unless_never (pinned table crew chamber) 13 n (λ z. omega arith) (λ z. omega arith))

  never_listing : (crew : ℕ) (found : List ℕ) → (unless (eqb (length table) 64 && eqb (length found) 32) 2 ≡ n → ⊥) → list_number table crew found ≡ n → ⊥
  unfolding list_number
  never_listing crew found f e = first_never (unless (eqb (length table) 64 && eqb (length found) 32) 2) (unless (is_crew crew) 11) n f
      (unless_never (is_crew crew) 11 n (λ z. omega arith) (λ z. omega arith)) (sym (sound_crew (eqb (length table) 64 && eqb (length found) 32) crew s) ∙ e)

trusted : {table : List ℕ} → Sound table → Trusted table
unfolding list_answer
trusted {table} s = record {
  adding = λ crew chamber. (never_adding s 2 (omega arith) (omega arith) crew chamber, never_adding s 3 (omega arith) (omega arith) crew chamber);
  removing = λ crew chamber. (never_removing s 2 (omega arith) (omega arith) crew chamber, never_removing s 3 (omega arith) (omega arith) crew chamber);
  listing = λ crew found. (
    (λ room. never_listing s 2 (omega arith) (omega arith) crew found (right found room)),
    never_listing s 3 (omega arith) (omega arith) crew found (unless_never (eqb (length table) 64 && eqb (length found) 32) 2 3 (λ z. omega arith) (λ z. omega arith)),
  );
}
  where
    right : (found : List ℕ) → length found ≡ 32 → unless (eqb (length table) 64 && eqb (length found) 32) 2 ≡ 2 → ⊥
    right found room = rw (sound_sized s, eq-eqb (length found) 32 room) (λ z. omega arith)

pub never_refused_for_its_table : (history : List Call) → Trusted (table_after empty history)
never_refused_for_its_table history = trusted (sound_after empty history empty_sound)

-- ---- and a crew with room always finds a place

pub finds_a_place : (table : List ℕ) (crew : ℕ) → Passes table → is_crew crew ≡ true → held crew table < 32 → stands free table ≡ true
finds_a_place table crew p k r = true_of (stands free table) (room_finds_a_place (passing_sound p) (crew_is (to_T k)) r)

-- so an add of a new pin is done
pub adds_with_room : (table : List ℕ) (crew chamber : ℕ) → Passes table → is_crew crew ≡ true → is_chamber chamber ≡ true → pinned table crew chamber ≡ false → held crew table < 32
    → add_number table crew chamber ≡ 0
unfolding add_number first_refusal
adds_with_room table crew chamber p k h n r =
    rw (sound_chamber crew chamber (passing_sound p), k, h, n, lt-ltb (held crew table) 32 r)

-- and where the crew has 32 it is refused with 14
pub refused_without_room : (table : List ℕ) (crew chamber : ℕ) → Passes table → is_crew crew ≡ true → is_chamber chamber ≡ true → pinned table crew chamber ≡ false → held crew table ≡ 32
    → add_number table crew chamber ≡ 14
unfolding add_number first_refusal
refused_without_room table crew chamber p k h n r = rw (sound_chamber crew chamber (passing_sound p), k, h, n, r)
