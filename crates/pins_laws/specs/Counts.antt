-- How many pins a table has: those of both crews and the free places are all of it, so that a crew with room finds a place; and a crew's listing is as long as
-- the crew has pins.
use Rattle.std.specs.Prelude.{ℕ, ◌+◌, ◌<◌, ◌≡◌, refl, Bool, true, not, ◌||◌, T}
use Rattle.std.proofs.Math.Path.{sym, ap}
use Rattle.std.proofs.Common.{◌∙◌, subst, arith}
use Rattle.std.proofs.Math.Bool.{false, cond}
use mathlib.Core.List.{List, [], ◌∷◌}
use Rattle.std.proofs.Math.ListN.{length}
use Rattle.std.proofs.Math.Dec.{eqb}
use borrow.Author.Tests.{eq-eqb, ne_eqb, lt-ltb, eqb-true, eqb-false}
use Rattle.laws.specs.Tests.{false_of, or_right}
use Rattle.rules.specs.Search.{places}
use Rattle.laws.specs.PutIn.{places_same, one_more_place}
use Rattle.laws.specs.Rising.{places_empty}
use Rattle.pins_rules.specs.Table.{pin, crew_of, pinned, stands, held, pins_of, words_fit, each_once}
use Rattle.pins_laws.specs.Words.{Crew, by_crew, Fitting, none, one, first_fits, rest_fits, crew_of_pin, pin_not_free, same_chamber}
use Rattle.pins_laws.specs.Once.{first_once, rest_once}

-- ---- one word: free, of crew 1 or of crew 2

crew_of_free : crew_of 0 ≡ 0
unfolding crew_of
crew_of_free = refl

-- so many of crew c's among one word
abbrev of_crew : (crew word : ℕ) → ℕ
of_crew crew w = cond (eqb (crew_of w) crew) 1 0

one_of_three : {w : ℕ} → Fitting w → of_crew 0 w + of_crew 1 w + of_crew 2 w ≡ 1
one_of_three none = rw crew_of_free
one_of_three (one {crew = crew} {chamber = chamber} k h) = rw (crew_of_pin crew {chamber = chamber} (omega arith)) (by_crew (λ c. cond (eqb c 0) 1 0 + cond (eqb c 1) 1 0 + cond (eqb c 2) 1 0 ≡ 1) refl refl crew k)

-- ---- all words

pub all_of_three : (table : List ℕ) → T (words_fit table) → held 0 table + held 1 table + held 2 table ≡ length table
unfolding held words_fit
all_of_three [] t = refl
all_of_three (w ∷ rest) t =
    let e = one_of_three (first_fits w rest t) in
    let later = all_of_three rest (rest_fits w rest t) in
    omega arith

-- crew 0's words are free places
free_stands : (table : List ℕ) → T (words_fit table) → 0 < held 0 table → T (stands 0 table)
unfolding held words_fit stands
free_stands [] t h = absurd (omega arith)
free_stands (w ∷ rest) t h = go w (first_fits w rest t) h (free_stands rest (rest_fits w rest t))
  where
    go : (w : ℕ) → Fitting w → 0 < of_crew 0 w + held 0 rest → (0 < held 0 rest → T (stands 0 rest)) → T (eqb w 0 || stands 0 rest)
    go w none h later = tt
    go w (one {crew = crew} {chamber = chamber} k b) h later =
        let e : of_crew 0 (pin crew chamber) ≡ 0 = rw (crew_of_pin crew {chamber = chamber} (omega arith), ne_eqb crew 0 (λ z. omega (arith, k.least))) in
        or_right (eqb (pin crew chamber) 0) (stands 0 rest) (later (omega arith))

pub some_place_free : (table : List ℕ) → T (words_fit table) → held 1 table + held 2 table < length table → T (stands 0 table)
some_place_free table t h = free_stands table t (omega (arith, all_of_three table t))

-- ---- a crew's listing

module _ (crew : ℕ) where
  pub nothing_listed : pins_of [] crew ≡ []
  unfolding pins_of pinned stands
  nothing_listed = places_empty (pinned [] crew) 1000 (λ j h. refl)

  -- a word before a table that is not this crew's
  pub other_listed : (w : ℕ) (rest : List ℕ) → (crew_of w ≡ crew → ⊥) → pins_of (w ∷ rest) crew ≡ pins_of rest crew
  unfolding pins_of pinned stands
  other_listed w rest other = places_same 1000 (pinned (w ∷ rest) crew) (pinned rest crew) (λ j h. ap (λ (b : Bool). b || stands (pin crew j) rest) (differs j h))
    where
      differs : (j : ℕ) → j < 1000 → eqb w (pin crew j) ≡ false
      differs j h = ne_eqb w (pin crew j) (λ e. other (ap crew_of e ∙ crew_of_pin crew {chamber = j} (omega arith)))

  -- a pin of its own: it has it, and every other as before
  pub now_pinned : (chamber : ℕ) (rest : List ℕ) → pinned (pin crew chamber ∷ rest) crew chamber ≡ true
  unfolding pinned stands
  now_pinned chamber rest = ap (λ (b : Bool). b || stands (pin crew chamber) rest) (eq-eqb (pin crew chamber) (pin crew chamber) refl)

  pub others_pinned : (chamber : ℕ) (rest : List ℕ) (j : ℕ) → (j ≡ chamber → ⊥) → pinned rest crew j ≡ pinned (pin crew chamber ∷ rest) crew j
  unfolding pinned stands
  others_pinned chamber rest j other = sym (ap (λ (b : Bool). b || stands (pin crew j) rest) (ne_eqb (pin crew chamber) (pin crew j) (λ e. other (sym (same_chamber crew chamber j e)))))

  pub not_yet : (chamber : ℕ) (rest : List ℕ) → T (not (stands (pin crew chamber) rest)) → pinned rest crew chamber ≡ false
  unfolding pinned
  not_yet chamber rest n = false_of (stands (pin crew chamber) rest) n

  -- and where it had it not, the listing has one more
  pub own_listed : (chamber : ℕ) (rest : List ℕ) → chamber < 1000 → T (not (stands (pin crew chamber) rest)) → length (pins_of (pin crew chamber ∷ rest) crew) ≡ length (pins_of rest crew) + 1
  unfolding pins_of
  own_listed chamber rest h n =
      one_more_place 1000 (pinned rest crew) (pinned (pin crew chamber ∷ rest) crew) chamber (others_pinned chamber rest) (not_yet chamber rest n) (now_pinned chamber rest)
      ∙ ap (λ (b : Bool). length (places 1000 (pinned rest crew)) + cond b 1 0) (lt-ltb chamber 1000 h)

  held_other : (w : ℕ) (rest : List ℕ) → (crew_of w ≡ crew → ⊥) → held crew (w ∷ rest) ≡ held crew rest
  unfolding held
  held_other w rest other = rw (ne_eqb (crew_of w) crew other) (omega arith)

  held_own : (chamber : ℕ) (rest : List ℕ) → chamber < 1000 → held crew (pin crew chamber ∷ rest) ≡ held crew rest + 1
  unfolding held
  held_own chamber rest h = rw (eq-eqb (crew_of (pin crew chamber)) crew (crew_of_pin crew {chamber = chamber} (omega arith))) (omega arith)

  -- both grow by one with a word of the crew's, and stay with any other
  grow_alike : Crew crew → (w : ℕ) (rest : List ℕ) → Fitting w → T (each_once (w ∷ rest)) → length (pins_of rest crew) ≡ held crew rest → length (pins_of (w ∷ rest) crew) ≡ held crew (w ∷ rest)
  grow_alike k w rest none o e =
      let other : crew_of 0 ≡ crew → ⊥ = λ z. let l = k.least in let c = crew_of_free in omega arith in
      ap length (other_listed 0 rest other) ∙ e ∙ sym (held_other 0 rest other)
  grow_alike k w rest (one {crew = whose} {chamber = chamber} f h) o e = go (eqb whose crew) refl
    where
      go : (b : Bool) → eqb whose crew ≡ b → length (pins_of (pin whose chamber ∷ rest) crew) ≡ held crew (pin whose chamber ∷ rest)
      go true z =
          let is = eqb-true whose crew z in
          let new : T (not (stands (pin crew chamber) rest)) = subst (λ (c : ℕ). T (not (stands (pin c chamber) rest))) is (first_once (pin whose chamber) rest o (pin_not_free chamber f)) in
          subst (λ (c : ℕ). length (pins_of (pin c chamber ∷ rest) crew) ≡ held crew (pin c chamber ∷ rest)) (sym is)
          (own_listed chamber rest h new ∙ ap (λ (n : ℕ). n + 1) e ∙ sym (held_own chamber rest h))
      go false z =
          let other : crew_of (pin whose chamber) ≡ crew → ⊥ = λ y. eqb-false whose crew z (sym (crew_of_pin whose {chamber = chamber} (omega arith)) ∙ y) in
          ap length (other_listed (pin whose chamber) rest other) ∙ e ∙ sym (held_other (pin whose chamber) rest other)

  pub as_many_as_held : Crew crew → (table : List ℕ) → T (words_fit table) → T (each_once table) → length (pins_of table crew) ≡ held crew table
  unfolding words_fit held
  as_many_as_held k [] t o = ap length nothing_listed
  as_many_as_held k (w ∷ rest) t o =
      grow_alike k w rest (first_fits w rest t) o (as_many_as_held k rest (rest_fits w rest t) (rest_once w rest o))
