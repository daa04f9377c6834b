-- A sound table: one of 64 words that passes. What an add and a remove leave of it is sound again, and each crew has the pins that it had, but for the one that
-- came or went.
use Rattle.std.specs.Prelude.{ℕ, ◌+◌, ◌≤◌, ◌<◌, ◌≡◌, refl, Bool, true, cond, not, List, length, leb}
use Rattle.std.proofs.Common.{sym, ◌∙◌, subst, leb→le, le→leb}
use Rattle.std.proofs.Math.Bool.{false}
use native.Mathlib.Omega.{arith}
use Rattle.std.proofs.Math.Dec.{T, eqb}
use borrow.Author.Tests.{ne_eqb, eqb-true}
use Rattle.laws.specs.Tests.{true_of, to_T, four_of, of_four}
use Rattle.pins_rules.specs.Table.{pin, crew_of, pinned, stands, held, empty, word_fits, words_fit, each_once, table_fits, with_pin, without_pin}
use Rattle.pins_laws.specs.Words.{Crew, crew_one, crew_two, by_crew, crew_of_pin, other_pin, pin_not_free, none_fits, pin_fits}
use Rattle.pins_laws.specs.Changes.{Changed, changed, changed_length, stands_now, others_stand, held_changed, words_fit_lem}
use Rattle.pins_laws.specs.Once.{once_added, once_removed, gone}
use Rattle.pins_laws.specs.Counts.{some_place_free}

pub record Sound (table : List ℕ) : Type 0 where
  pub sized : length table ≡ 64
  pub words : T (words_fit table)
  pub once : T (each_once table)
  pub few : {crew : ℕ} → Crew crew → held crew table ≤ 32

pub sound : (table : List ℕ) → length table ≡ 64 → T (table_fits table) → Sound table
unfolding table_fits
sound table e t =
    let f = four_of (words_fit table) (each_once table) (leb (held 1 table) 32) (leb (held 2 table) 32) t in
    record {
      sized = e;
      words = f.one;
      once = f.two;
      few = λ {crew} k. by_crew (λ n. held n table ≤ 32) (leb→le (held 1 table) 32 f.three) (leb→le (held 2 table) 32 f.four) crew k;
    }

pub passes : {table : List ℕ} → Sound table → table_fits table ≡ true
unfolding table_fits
passes {table} s =
    true_of _ (of_four (words_fit table) (each_once table) (leb (held 1 table) 32) (leb (held 2 table) 32)
    (record { one = s.words; two = s.once; three = le→leb (held 1 table) 32 (s.few crew_one); four = le→leb (held 2 table) 32 (s.few crew_two) }))

pub empty_sound : Sound empty
unfolding empty table_fits words_fit word_fits each_once held crew_of stands
empty_sound = sound empty refl tt

-- ---- a pin comes

-- what changed: the table is sound, this crew has the pin or has it not, and any other pin is there if it was there
pub record Left (table : List ℕ) (crew chamber : ℕ) (now : Bool) (table' : List ℕ) : Type 0 where
  pub still_sound : Sound table'
  pub this : pinned table' crew chamber ≡ now
  pub others : {whose which : ℕ} → Crew whose → which < 1000 → (crew ≡ whose → chamber ≡ which → ⊥) → pinned table' whose which ≡ pinned table whose which

-- a crew with room finds a place, however many pins the other has
pub room_finds_a_place : {table : List ℕ} {crew : ℕ} → Sound table → Crew crew → held crew table < 32 → T (stands 0 table)
room_finds_a_place {table} {crew} s k r = some_place_free table s.words (subst (λ (n : ℕ). held 1 table + held 2 table < n) (sym s.sized) (by_crew Fewer first second crew k r))
  where
    Fewer : ℕ → Type 0
    Fewer c = held c table < 32 → held 1 table + held 2 table < 64

    first : Fewer 1
    first r = let m = s.few crew_two in omega arith

    second : Fewer 2
    second r = let m = s.few crew_one in omega arith

module _ {table : List ℕ} {crew chamber : ℕ} (s : Sound table) (k : Crew crew) (h : chamber < 1000) where
  -- the other crew has as many as before, and this one has one more at most
  few_still : {table' : List ℕ} {whose : ℕ} → Changed 0 (pin crew chamber) table table' → held crew table < 32 → Crew whose → held whose table' ≤ 32
  few_still {table'} {whose} c r w = go (eqb crew whose) refl (rw (crew_of_pin crew {chamber = chamber} (omega arith)) at (held_changed whose c))
    where
      go : (b : Bool) → eqb crew whose ≡ b → cond (eqb (crew_of 0) whose) 1 0 + held whose table' ≡ cond (eqb crew whose) 1 0 + held whose table → held whose table' ≤ 32
      go true e z = let m = subst (λ (c : ℕ). held c table < 32) (eqb-true crew whose e) r in let z' = rw e at z in omega arith
      go false e z = let m = s.few w in let z' = rw e at z in omega arith

  pub pin_comes : held crew table < 32 → pinned table crew chamber ≡ false → Left table crew chamber true (with_pin crew chamber table)
  unfolding with_pin pinned
  pin_comes r n =
      let c = changed 0 (pin crew chamber) table (room_finds_a_place s k r) in
      record {
        still_sound = record {
          sized = changed_length c ∙ s.sized;
          words = words_fit_lem c (pin_fits k h) s.words;
          once = once_added c (subst (λ (b : Bool). T (not b)) (sym n) tt) s.once;
          few = λ w. few_still c r w;
        };
        this = true_of _ (stands_now c);
        others = λ w l other. others_stand c (λ z. pin_not_free _ w (sym z)) (other_pin h l other);
      }

  -- ---- a pin goes

  fewer_still : {table' : List ℕ} {whose : ℕ} → Changed (pin crew chamber) 0 table table' → Crew whose → held whose table' ≤ 32
  unfolding crew_of
  fewer_still {table'} {whose} c w =
      let e : eqb 0 whose ≡ false = ne_eqb 0 whose (λ z. omega (arith, w.least)) in
      let z = rw e at (held_changed whose c) in
      let m = s.few w in
      omega arith

  pub pin_goes : pinned table crew chamber ≡ true → Left table crew chamber false (without_pin crew chamber table)
  unfolding without_pin pinned
  pin_goes n =
      let c = changed (pin crew chamber) 0 table (to_T n) in
      record {
        still_sound = record {
          sized = changed_length c ∙ s.sized;
          words = words_fit_lem c none_fits s.words;
          once = once_removed (pin_not_free chamber k) c s.once;
          few = λ w. fewer_still c w;
        };
        this = gone (pin_not_free chamber k) c s.once;
        others = λ w l other. others_stand c (other_pin h l other) (λ z. pin_not_free _ w (sym z));
      }
