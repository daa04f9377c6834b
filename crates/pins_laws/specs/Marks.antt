-- Marks of the pins that stand among some words, one byte for each chamber: 1 for crew 1, 2 for crew 2, 3 for both. What one word does to them.
use Prim.Native.Nat.{ℕ, ◌+◌, ◌≤◌, ◌<◌}
use Rattle.std.specs.Prelude.{◌≡◌, Bool, true, false, cond, not, ◌&&◌, ◌||◌, List, [], ◌∷◌, length, get_or, set, replicate, T, eqb}
use Rattle.std.proofs.Math.Path.{refl, subst}
use Rattle.std.proofs.Common.{sym, ◌∙◌, ap, ap₂, arith, get_or-set_same, get_or-set_other, eq-eqb, ne_eqb, eqb-true}
use Rattle.std.proofs.Math.Bool.{and-true, and-false}
use Rattle.std.proofs.Math.ListN.{length-set}
use Rattle.std.proofs.lemmas.List.{length-replicate, get_or-replicate, set-get_or}
use Rattle.std.specs.Int.Bits.{bit_and, bit_or, and_zero_r, or_zero_r}
use Rattle.std.proofs.lemmas.Bool.{eqb-false}
use Rattle.pins_rules.specs.Table.{pin, crew_of, chamber_of, stands, words_fit}
use Rattle.pins_laws.specs.Words.{Crew, Fitting, none, one, crew_of_pin, chamber_of_pin, crew_one, crew_two, by_crew, same_pin, pin_not_free}

-- the mark of a chamber that crew 1, or crew 2, or both have pinned
unfoldable pub mark_of : (first second : Bool) → ℕ
mark_of first second = cond first 1 0 + cond second 2 0

pub record Marks (words marks : List ℕ) : Type 0 where
  pub sized : length marks ≡ 1000
  pub are : (chamber : ℕ) → chamber < 1000 → get_or marks chamber 0 ≡ mark_of (stands (pin 1 chamber) words) (stands (pin 2 chamber) words)

pub marks_none : Marks [] (replicate 1000 0)
unfolding mark_of stands
marks_none = record { sized = length-replicate {A = ℕ} 1000 0; are = λ chamber h. get_or-replicate 1000 chamber 0 0 h }

-- what one word does: whether it was not marked, and the marks then
abbrev pub is_new : (word : ℕ) (marks : List ℕ) → Bool
is_new word marks = eqb (bit_and (get_or marks (chamber_of word) 0) (crew_of word)) 0

abbrev pub with_mark : (word : ℕ) (marks : List ℕ) → List ℕ
with_mark word marks = set marks (chamber_of word) (bit_or (get_or marks (chamber_of word) 0) (crew_of word))

-- a word that can be marked, and what marking it says and leaves
pub record Markable (word : ℕ) (marks : List ℕ) : Type 0 where
  pub inside : chamber_of word < length marks
  pub small : crew_of word ≤ 2

pub record MarkedBy (word : ℕ) (marks : List ℕ) (new : Bool) (left : List ℕ) : Type 0 where
  pub says : new ≡ is_new word marks
  pub leaves : left ≡ with_mark word marks

-- a table whose words all fit, and no marks yet
pub record Unmarked (table marks : List ℕ) : Type 0 where
  pub fit : T (words_fit table)
  pub clear : marks ≡ replicate 1000 0

-- ---- one mark: whether a crew is new in it, and with that crew's

new_mark : (crew : ℕ) (first second : Bool) → Crew crew → eqb (bit_and (mark_of first second) crew) 0 ≡ not (cond (eqb crew 1) first second)
unfolding mark_of
new_mark crew first second k = by_crew (λ c. eqb (bit_and (mark_of first second) c) 0 ≡ not (cond (eqb c 1) first second)) (of_1 first second) (of_2 first second) crew k
  where
    of_1 : (a b : Bool) → eqb (bit_and (mark_of a b) 1) 0 ≡ not a
    of_1 true true = refl
    of_1 true false = refl
    of_1 false true = refl
    of_1 false false = refl

    of_2 : (a b : Bool) → eqb (bit_and (mark_of a b) 2) 0 ≡ not b
    of_2 true true = refl
    of_2 true false = refl
    of_2 false true = refl
    of_2 false false = refl

more_mark : (crew : ℕ) (first second : Bool) → Crew crew → bit_or (mark_of first second) crew ≡ mark_of (eqb crew 1 || first) (eqb crew 2 || second)
unfolding mark_of
more_mark crew first second k = by_crew (λ c. bit_or (mark_of first second) c ≡ mark_of (eqb c 1 || first) (eqb c 2 || second)) (of_1 first second) (of_2 first second) crew k
  where
    of_1 : (a b : Bool) → bit_or (mark_of a b) 1 ≡ mark_of true b
    of_1 true true = refl
    of_1 true false = refl
    of_1 false true = refl
    of_1 false false = refl

    of_2 : (a b : Bool) → bit_or (mark_of a b) 2 ≡ mark_of a true
    of_2 true true = refl
    of_2 true false = refl
    of_2 false true = refl
    of_2 false false = refl

-- ---- a word that fits

-- a free word is always new, and marks nothing
free_new : (marks : List ℕ) → is_new 0 marks ≡ true
unfolding crew_of
free_new marks = ap (λ (n : ℕ). eqb n 0) (and_zero_r (get_or marks (chamber_of 0) 0))

free_more : (marks : List ℕ) → with_mark 0 marks ≡ marks
unfolding crew_of
free_more marks = ap (set marks (chamber_of 0)) (or_zero_r (get_or marks (chamber_of 0) 0)) ∙ set-get_or marks (chamber_of 0) 0

pub marked_free : {word : ℕ} {marks : List ℕ} → word ≡ 0 → MarkedBy word marks true marks
marked_free {word} {marks} e = record { says = sym (ap (λ (w : ℕ). is_new w marks) e ∙ free_new marks); leaves = sym (ap (λ (w : ℕ). with_mark w marks) e ∙ free_more marks) }

-- a pin's mark, read and stored by its chamber and its crew
pub marked_pin : {word at crew : ℕ} {marks : List ℕ} → at ≡ chamber_of word → crew ≡ crew_of word → MarkedBy word marks (eqb (bit_and (get_or marks at 0) crew) 0) (set marks at (bit_or (get_or marks at 0) crew))
marked_pin {marks = marks} e c = record { says = ap₂ (λ (i n : ℕ). eqb (bit_and (get_or marks i 0) n) 0) e c; leaves = ap₂ (λ (i n : ℕ). set marks i (bit_or (get_or marks i 0) n)) e c }

module _ {rest marks : List ℕ} (m : Marks rest marks) where
  module _ {crew chamber : ℕ} (k : Crew crew) (h : chamber < 1000) where
    abbrev mark : ℕ
    mark = mark_of (stands (pin 1 chamber) rest) (stands (pin 2 chamber) rest)

    mark_is : get_or marks (chamber_of (pin crew chamber)) 0 ≡ mark
    mark_is = ap (λ (j : ℕ). get_or marks j 0) (chamber_of_pin crew {chamber = chamber} (omega arith)) ∙ m.are chamber h

    pin_new : is_new (pin crew chamber) marks ≡ not (stands (pin crew chamber) rest)
    pin_new =
        ap₂ (λ (a c : ℕ). eqb (bit_and a c) 0) mark_is (crew_of_pin crew {chamber = chamber} (omega arith))
        ∙ new_mark crew (stands (pin 1 chamber) rest) (stands (pin 2 chamber) rest) k
        ∙ ap not (by_crew (λ c. cond (eqb c 1) (stands (pin 1 chamber) rest) (stands (pin 2 chamber) rest) ≡ stands (pin c chamber) rest) refl refl crew k)

    pin_more : Marks (pin crew chamber ∷ rest) (with_mark (pin crew chamber) marks)
    unfolding stands
    pin_more = subst (Marks (pin crew chamber ∷ rest)) (sym marked) (record { sized = length-set marks chamber _ ∙ m.sized; are = λ j l. go j l (eqb chamber j) refl })
      where
        new : ℕ
        new = mark_of (eqb crew 1 || stands (pin 1 chamber) rest) (eqb crew 2 || stands (pin 2 chamber) rest)

        marked : with_mark (pin crew chamber) marks ≡ set marks chamber new
        marked =
            ap₂ (λ (j v : ℕ). set marks j v) (chamber_of_pin crew {chamber = chamber} (omega arith))
            (ap₂ bit_or mark_is (crew_of_pin crew {chamber = chamber} (omega arith)) ∙ more_mark crew (stands (pin 1 chamber) rest) (stands (pin 2 chamber) rest) k)

        go : (j : ℕ) → j < 1000 → (b : Bool) → eqb chamber j ≡ b
            → get_or (set marks chamber new) j 0 ≡ mark_of (eqb (pin crew chamber) (pin 1 j) || stands (pin 1 j) rest) (eqb (pin crew chamber) (pin 2 j) || stands (pin 2 j) rest)
        go j l true e =
            subst (λ (i : ℕ). get_or (set marks chamber new) i 0 ≡ mark_of (eqb (pin crew chamber) (pin 1 i) || stands (pin 1 i) rest) (eqb (pin crew chamber) (pin 2 i) || stands (pin 2 i) rest)) (eqb-true chamber j e)
            (get_or-set_same marks chamber new 0 (omega (arith, m.sized))
            ∙ ap₂ (λ (a b : Bool). mark_of (a || stands (pin 1 chamber) rest) (b || stands (pin 2 chamber) rest)) (sym (here 1)) (sym (here 2)))
          where
            here : (whose : ℕ) → eqb (pin crew chamber) (pin whose chamber) ≡ eqb crew whose
            here whose = same_pin crew whose h h ∙ ap (λ (b : Bool). eqb crew whose && b) (eq-eqb chamber chamber refl) ∙ and-true (eqb crew whose)
        go j l false e =
            get_or-set_other marks chamber j new 0 (λ z. eqb-false chamber j e (sym z))
            ∙ m.are j l
            ∙ ap₂ (λ (a b : Bool). mark_of (a || stands (pin 1 j) rest) (b || stands (pin 2 j) rest)) (sym (elsewhere 1)) (sym (elsewhere 2))
          where
            elsewhere : (whose : ℕ) → eqb (pin crew chamber) (pin whose j) ≡ false
            elsewhere whose = same_pin crew whose h l ∙ ap (λ (b : Bool). eqb crew whose && b) e ∙ and-false (eqb crew whose)

pub marks_new : {rest marks : List ℕ} {w : ℕ} → Marks rest marks → Fitting w → is_new w marks ≡ (eqb w 0 || not (stands w rest))
marks_new {rest} {marks} m none = free_new marks
marks_new {rest} {marks} m (one {crew = crew} {chamber = chamber} k h) = pin_new m k h ∙ ap (λ (b : Bool). b || not (stands (pin crew chamber) rest)) (sym (ne_eqb (pin crew chamber) 0 (pin_not_free chamber k)))

pub marks_more : {rest marks : List ℕ} {w : ℕ} → Marks rest marks → Fitting w → Marks (w ∷ rest) (with_mark w marks)
unfolding stands
marks_more {rest} {marks} m none = subst (Marks (0 ∷ rest)) (sym (free_more marks)) (record { sized = m.sized; are = λ j l. m.are j l ∙ ap₂ (λ (a b : Bool). mark_of (a || stands (pin 1 j) rest) (b || stands (pin 2 j) rest)) (sym (free_is crew_one j)) (sym (free_is crew_two j)) })
  where
    free_is : {crew : ℕ} → Crew crew → (j : ℕ) → eqb 0 (pin crew j) ≡ false
    free_is {crew} k j = ne_eqb 0 (pin crew j) (λ z. pin_not_free j k (sym z))
marks_more m (one k h) = pin_more m k h
