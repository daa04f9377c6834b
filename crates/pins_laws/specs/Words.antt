-- The words of a pin table: a pin's crew and chamber come back, pins that are equal are one crew's on one chamber, and what a word that fits is.
use Rattle.std.specs.Prelude.{ℕ, zero, suc, ◌≤◌, ◌<◌, ◌≡◌, refl, Bool, true, false, ◌&&◌, List, ◌∷◌, T, leb, eqb}
use Rattle.std.proofs.Common.{sym, ◌∙◌, ap, ap₂, subst, inl, inr, div-add-mod', arith, leb→le, le→leb, ltb→lt, lt→ltb, eqb→eq, eq-eqb, ne_eqb, eqb-true}
use Rattle.std.proofs.Math.Arith.{digits_div, digits_mod}
use Rattle.std.proofs.lemmas.Bool.{eqb-false}
use Rattle.laws.specs.Tests.{and_both, and_left, and_right, or_cases, or_right}
use Rattle.pins_rules.specs.Table.{pin, crew_of, chamber_of, is_crew, is_chamber, word_fits, words_fit}

-- ---- pins

pub crew_of_pin : (crew : ℕ) {chamber : ℕ} → chamber < 65536 → crew_of (pin crew chamber) ≡ crew
unfolding pin crew_of
crew_of_pin crew h = digits_div crew h

pub chamber_of_pin : (crew : ℕ) {chamber : ℕ} → chamber < 65536 → chamber_of (pin crew chamber) ≡ chamber
unfolding pin chamber_of
chamber_of_pin crew h = digits_mod crew h

pub pin_of_word : (word : ℕ) → pin (crew_of word) (chamber_of word) ≡ word
unfolding pin crew_of chamber_of
pin_of_word w = div-add-mod' w 65536

pub same_chamber : (crew chamber other : ℕ) → pin crew chamber ≡ pin crew other → chamber ≡ other
unfolding pin
same_chamber crew chamber other e = omega arith

-- ---- crews and chambers, as facts

pub record Crew (crew : ℕ) : Type 0 where
  pub least : 1 ≤ crew
  pub most : crew ≤ 2

pub crew_is : {crew : ℕ} → T (is_crew crew) → Crew crew
crew_is {crew} t = record { least = leb→le 1 crew (and_left (leb 1 crew) _ t); most = leb→le crew 2 (and_right (leb 1 crew) _ t) }

pub is_crew_lem : {crew : ℕ} → Crew crew → T (is_crew crew)
is_crew_lem {crew} k = and_both (leb 1 crew) (leb crew 2) (le→leb 1 crew k.least) (le→leb crew 2 k.most)

pub crew_one : Crew 1
crew_one = record { least = omega arith; most = omega arith }

pub crew_two : Crew 2
crew_two = record { least = omega arith; most = omega arith }

-- a crew is 1 or 2
pub by_crew : (P : ℕ → Type 0) → P 1 → P 2 → (crew : ℕ) → Crew crew → P crew
by_crew P one two zero k = absurd (omega (arith, k.least))
by_crew P one two (suc zero) k = one
by_crew P one two (suc (suc zero)) k = two
by_crew P one two (suc (suc (suc n))) k = absurd (omega (arith, k.most))

pub pin_not_free : {crew : ℕ} (chamber : ℕ) → Crew crew → pin crew chamber ≡ 0 → ⊥
unfolding pin
pin_not_free chamber k e = omega arith

-- another crew's pin, or another chamber's, is another word
pub other_pin : {crew chamber whose which : ℕ} → chamber < 1000 → which < 1000 → (crew ≡ whose → chamber ≡ which → ⊥) → pin crew chamber ≡ pin whose which → ⊥
other_pin {crew} {chamber} {whose} {which} h l other e =
    let same : crew ≡ whose = sym (crew_of_pin crew {chamber = chamber} (omega arith)) ∙ ap crew_of e ∙ crew_of_pin whose {chamber = which} (omega arith) in
    other same (same_chamber whose chamber which (subst (λ (c : ℕ). pin c chamber ≡ pin whose which) same e))

pub same_pin : (crew whose : ℕ) {chamber which : ℕ} → chamber < 1000 → which < 1000 → eqb (pin crew chamber) (pin whose which) ≡ (eqb crew whose && eqb chamber which)
same_pin crew whose {chamber} {which} h l = go (eqb crew whose) (eqb chamber which) refl refl
  where
    go : (a b : Bool) → eqb crew whose ≡ a → eqb chamber which ≡ b → eqb (pin crew chamber) (pin whose which) ≡ (a && b)
    go true true e f = eq-eqb (pin crew chamber) (pin whose which) (ap₂ pin (eqb-true crew whose e) (eqb-true chamber which f))
    go true false e f = ne_eqb (pin crew chamber) (pin whose which) (other_pin h l (λ _ z. eqb-false chamber which f z))
    go false b e f = ne_eqb (pin crew chamber) (pin whose which) (other_pin h l (λ z _. eqb-false crew whose e z))

-- ---- words that fit

pub data Fitting : ℕ → Type 0 where
  none : Fitting 0
  one : {crew chamber : ℕ} → Crew crew → chamber < 1000 → Fitting (pin crew chamber)

pub fitting : {word : ℕ} → T (word_fits word) → Fitting word
unfolding word_fits
fitting {word} t = elim (or_cases (eqb word 0) _ t) [
  | inl e ↦ subst Fitting (sym (eqb→eq word 0 e)) none
  | inr k ↦ subst Fitting (pin_of_word word) (one (crew_is (and_left (is_crew (crew_of word)) _ k)) (ltb→lt (chamber_of word) 1000 (and_right (is_crew (crew_of word)) _ k)))
]

pub none_fits : T (word_fits 0)
unfolding word_fits
none_fits = tt

pub pin_fits : {crew chamber : ℕ} → Crew crew → chamber < 1000 → T (word_fits (pin crew chamber))
unfolding word_fits
pin_fits {crew} {chamber} k h =
    or_right (eqb (pin crew chamber) 0) (is_crew (crew_of (pin crew chamber)) && is_chamber (chamber_of (pin crew chamber)))
    (and_both (is_crew (crew_of (pin crew chamber))) (is_chamber (chamber_of (pin crew chamber)))
    (subst (λ (n : ℕ). T (is_crew n)) (sym (crew_of_pin crew {chamber = chamber} (omega arith))) (is_crew_lem k))
    (subst (λ (n : ℕ). T (is_chamber n)) (sym (chamber_of_pin crew {chamber = chamber} (omega arith))) (lt→ltb chamber 1000 h)))

-- of a table whose words fit, the first one and the rest
pub first_fits : (w : ℕ) (rest : List ℕ) → T (words_fit (w ∷ rest)) → Fitting w
unfolding words_fit
first_fits w rest t = fitting (and_left (word_fits w) (words_fit rest) t)

pub rest_fits : (w : ℕ) (rest : List ℕ) → T (words_fit (w ∷ rest)) → T (words_fit rest)
unfolding words_fit
rest_fits w rest t = and_right (word_fits w) (words_fit rest) t
