-- What the numbers of the calls on a pin table say: of a sound table, and where they are 0.
use Rattle.std.specs.Prelude.{ℕ, suc, ◌<◌, ◌≡◌, refl, Bool, true, false, not, ◌&&◌, List, length, ltb, eqb}
use Rattle.std.proofs.Common.{◌∙◌, ap, suc-ne-zero, eqb→eq, eq-eqb, ltb-true, eqb-true}
use Rattle.std.proofs.lemmas.Bool.{not-true}
use Rattle.rules.specs.Site.{first_refusal}
use Rattle.laws.specs.Outcomes.{both_passed}
use Rattle.laws.specs.Tests.{to_T, and_left, and_right}
use Rattle.pins_rules.specs.Table.{is_crew, is_chamber, pinned, held, table_fits}
use Rattle.pins_rules.specs.Calls.{unless, crew_number, chamber_number, add_number, remove_number, list_number}
use Rattle.pins_laws.specs.Words.{Crew, crew_is}
use Rattle.pins_laws.specs.Sound.{Sound, sound, passes}

-- a number above 0 is not given: its test passed
pub passed : (b : Bool) (n : ℕ) → unless b (suc n) ≡ 0 → b ≡ true
passed true n e = refl
passed false n e = absurd (suc-ne-zero n e)

-- ---- where a number is 0

pub record CrewGranted (lengths : Bool) (table : List ℕ) (crew : ℕ) : Type 0 where
  pub right : lengths ≡ true
  pub fits : table_fits table ≡ true
  pub known : Crew crew

pub crew_granted : (lengths : Bool) (table : List ℕ) (crew : ℕ) → crew_number lengths table crew ≡ 0 → CrewGranted lengths table crew
unfolding crew_number
crew_granted lengths table crew e =
    let first = both_passed (unless lengths 2) _ e in
    let second = both_passed (unless (table_fits table) 3) _ first.1 in
    record { right = passed lengths 1 first.0; fits = passed (table_fits table) 2 second.0; known = crew_is (to_T (passed (is_crew crew) 10 second.1)) }

pub record ChamberGranted (table : List ℕ) (crew chamber : ℕ) : Type 0 where
  pub is_sound : Sound table
  pub known : Crew crew
  pub below : chamber < 1000

pub chamber_granted : (table : List ℕ) (crew chamber : ℕ) → chamber_number table crew chamber ≡ 0 → ChamberGranted table crew chamber
unfolding chamber_number
chamber_granted table crew chamber e =
    let both = both_passed (crew_number (eqb (length table) 64) table crew) _ e in
    let g = crew_granted (eqb (length table) 64) table crew both.0 in
    record { is_sound = sound table (eqb-true (length table) 64 g.right) (to_T g.fits); known = g.known; below = ltb-true chamber 1000 (passed (is_chamber chamber) 11 both.1) }

pub record AddGranted (table : List ℕ) (crew chamber : ℕ) : Type 0 where
  pub asked : ChamberGranted table crew chamber
  pub new : pinned table crew chamber ≡ false
  pub room : held crew table < 32

pub add_granted : (table : List ℕ) (crew chamber : ℕ) → add_number table crew chamber ≡ 0 → AddGranted table crew chamber
unfolding add_number
add_granted table crew chamber e =
    let both = both_passed (chamber_number table crew chamber) _ e in
    let later = both_passed (unless (not (pinned table crew chamber)) 13) _ both.1 in
    record {
      asked = chamber_granted table crew chamber both.0;
      new = not-true (pinned table crew chamber) (passed (not (pinned table crew chamber)) 12 later.0);
      room = ltb-true (held crew table) 32 (passed (ltb (held crew table) 32) 13 later.1);
    }

pub record RemoveGranted (table : List ℕ) (crew chamber : ℕ) : Type 0 where
  pub asked : ChamberGranted table crew chamber
  pub there : pinned table crew chamber ≡ true

pub remove_granted : (table : List ℕ) (crew chamber : ℕ) → remove_number table crew chamber ≡ 0 → RemoveGranted table crew chamber
unfolding remove_number
remove_granted table crew chamber e =
    let both = both_passed (chamber_number table crew chamber) _ e in
    record { asked = chamber_granted table crew chamber both.0; there = passed (pinned table crew chamber) 12 both.1 }

pub record ListGranted (table : List ℕ) (crew : ℕ) (found : List ℕ) : Type 0 where
  pub is_sound : Sound table
  pub known : Crew crew
  pub room : length found ≡ 32

pub list_granted : (table : List ℕ) (crew : ℕ) (found : List ℕ) → list_number table crew found ≡ 0 → ListGranted table crew found
unfolding list_number
list_granted table crew found e =
    let g = crew_granted (eqb (length table) 64 && eqb (length found) 32) table crew e in
    let both = to_T g.right in
    record {
      is_sound = sound table (eqb→eq (length table) 64 (and_left (eqb (length table) 64) (eqb (length found) 32) both)) (to_T g.fits);
      known = g.known;
      room = eqb→eq (length found) 32 (and_right (eqb (length table) 64) (eqb (length found) 32) both);
    }

-- ---- of a sound table only what is asked counts

pub sound_crew : {table : List ℕ} (lengths : Bool) (crew : ℕ) → Sound table → crew_number lengths table crew ≡ first_refusal (unless lengths 2) (unless (is_crew crew) 11)
unfolding crew_number first_refusal
sound_crew lengths crew s = rw (passes s)

pub sound_sized : {table : List ℕ} → Sound table → eqb (length table) 64 ≡ true
sound_sized {table} s = eq-eqb (length table) 64 s.sized

pub sound_chamber : {table : List ℕ} (crew chamber : ℕ) → Sound table → chamber_number table crew chamber ≡ first_refusal (unless (is_crew crew) 11) (unless (is_chamber chamber) 12)
unfolding chamber_number first_refusal
sound_chamber {table} crew chamber s = ap (λ (n : ℕ). first_refusal n (unless (is_chamber chamber) 12)) (asked (eqb (length table) 64) (sound_sized s))
  where
    asked : (sized : Bool) → sized ≡ true → crew_number sized table crew ≡ unless (is_crew crew) 11
    asked sized e = sound_crew sized crew s ∙ rw e
