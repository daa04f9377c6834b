-- The look over a raster's values: each word a decimal, in its range and not the no-data value, one word after the other.
use Rattle.std.specs.Prelude.{ℕ, zero, suc, ◌+◌, ◌≤◌, ◌<◌, ◌≡◌, refl, Bool, true, false, not, ◌&&◌, ◌||◌, List, [], ◌∷◌, map, Option, Some, None, ℤ, pos, negsuc, nat_abs, length, get_or, drop, T, leb, eqb}
use Rattle.std.proofs.Common.{sym, ap, ◌∙◌, subst, arith, add-zero, length-drop, get_or-drop, drop-drop, leb-true, leb-false, eq-eqb, ne_eqb}
use mathlib.Core.Bool.{beq}
use Rattle.std.proofs.Math.Bool.{and-true, and-false, and_comm}
use Rattle.std.specs.Int.Signed.{le_z}
use Rattle.std.proofs.Math.ListN.{get_or-map}
use Rattle.std.proofs.Math.Dec.{eqb-suc-suc}
use Rattle.std.proofs.lemmas.Bool.{lt-leb}
use Rattle.rules.specs.Site.{ground_fits}
use Rattle.rules.specs.Grid.{all}
use Rattle.rules.specs.Raster.{parts_words, words_of, word, is_decimal, decimal_value, signed, is_minus, unsigned, size_of, number_of, number_behind, digits_front, digits_rest, fraction}
use Rattle.laws.specs.Grids.{all_broken}
use Rattle.laws.specs.Gather.{Gathered, gather_none, gather_more, gather_all}
use Rattle.raster_laws.specs.Words.{Skipped, WordAt, Word, between, no_words}

-- ---- One value

-- the no-data value, where one is given
abbrev pub is_given : (no_data : Option ℤ) (z : ℤ) → Bool
is_given None z = false
is_given (Some n) z = le_z z n && le_z n z

-- in its range, and not the no-data value
abbrev pub value_fits : (no_data : Option ℤ) (z : ℤ) → Bool
value_fits no_data z = ground_fits z && not (is_given no_data z)

-- the values of some words, and one of them; a word without bytes has the value 0
abbrev pub values_of : (ws : List (List ℕ)) → List ℤ
values_of ws = map decimal_value ws

pub value_read : (ws : List (List ℕ)) (k : ℕ) → get_or (values_of ws) k (pos 0) ≡ decimal_value (word ws k)
unfolding decimal_value signed is_minus unsigned size_of number_of number_behind digits_front digits_rest fraction
value_read ws k = get_or-map decimal_value ws k []

pub size_signed : (minus : Bool) (n : ℕ) → nat_abs (signed minus n) ≡ n
unfolding signed
size_signed false n = refl
size_signed true zero = refl
size_signed true (suc n) = refl

both_le : (a b : ℕ) → (leb a b && leb b a) ≡ eqb a b
both_le a b = go (leb a b) (leb b a) refl refl
  where
    go : (s t : Bool) → leb a b ≡ s → leb b a ≡ t → (s && t) ≡ eqb a b
    go true true e f = sym (eq-eqb a b (let l = leb-true a b e in let g = leb-true b a f in omega arith))
    go true false e f = sym (ne_eqb a b (λ n. let g = leb-false b a f in absurd (omega arith)))
    go false t e f = sym (ne_eqb a b (λ n. let g = leb-false a b e in absurd (omega arith)))

none_same : (a b : ℕ) → (a ≡ b → ⊥) → (q : Bool) → (eqb a b && q) ≡ false
none_same a b n q = ap (λ (t : Bool). t && q) (ne_eqb a b n)

-- the same number, by signs and sizes
pub same_value : (m : Bool) (a : ℕ) (o : Bool) (b : ℕ)
    → (eqb a b && (beq m o || eqb a 0)) ≡ (le_z (signed m a) (signed o b) && le_z (signed o b) (signed m a))
unfolding signed
same_value false a false b = and-true (eqb a b) ∙ sym (both_le a b)
same_value true zero true zero = refl
same_value true zero true (suc b) = none_same 0 (suc b) (λ e. absurd (omega arith)) true
same_value true (suc a) true zero = none_same (suc a) 0 (λ e. absurd (omega arith)) true ∙ sym (and-false (le_z (negsuc a) (pos 0)))
same_value true (suc a) true (suc b) = and-true (eqb (suc a) (suc b)) ∙ eqb-suc-suc a b ∙ sym (both_le a b) ∙ and_comm (leb a b) (leb b a)
same_value false zero true zero = refl
same_value false zero true (suc b) = none_same 0 (suc b) (λ e. absurd (omega arith)) (eqb 0 0)
same_value false (suc a) true zero = none_same (suc a) 0 (λ e. absurd (omega arith)) (eqb (suc a) 0) ∙ sym (ap (λ (t : Bool). t && leb 0 (suc a)) (lt-leb (suc a) 0 (omega arith)))
same_value false (suc a) true (suc b) = ap (λ (t : Bool). eqb (suc a) (suc b) && t) (ne_eqb (suc a) 0 (λ e. absurd (omega arith))) ∙ and-false (eqb (suc a) (suc b))
same_value true zero false zero = refl
same_value true zero false (suc b) = none_same 0 (suc b) (λ e. absurd (omega arith)) (eqb 0 0) ∙ sym (ap (λ (t : Bool). leb 0 (suc b) && t) (lt-leb (suc b) 0 (omega arith)) ∙ and-false (leb 0 (suc b)))
same_value true (suc a) false zero = none_same (suc a) 0 (λ e. absurd (omega arith)) (eqb (suc a) 0)
same_value true (suc a) false (suc b) = ap (λ (t : Bool). eqb (suc a) (suc b) && t) (ne_eqb (suc a) 0 (λ e. absurd (omega arith))) ∙ and-false (eqb (suc a) (suc b))

-- ---- All values

abbrev pub all_decimals : (ws : List (List ℕ)) → Bool
all_decimals ws = all (length ws) (λ k. is_decimal (word ws k))

-- what was found where every word is a decimal
pub record Looked (ws : List (List ℕ)) (no_data : Option ℤ) (count : ℕ) (fit : Bool) : Type 0 where
  pub says : all_decimals ws ≡ true
  pub counted : count ≡ length ws
  pub fits : fit ≡ all (length ws) (λ k. value_fits no_data (decimal_value (word ws k)))

-- a loop over them: the next word begins at p, and `count` were looked at
pub record Looking (text : List ℕ) (ws : List (List ℕ)) (no_data : Option ℤ) (fit : Bool) (count p : ℕ) : Type 0 where
  pub within : p ≤ length text
  pub begins : p < length text → parts_words (get_or text p 0) ≡ false
  pub few : count ≤ p
  pub rest : words_of (drop p text) ≡ drop count ws
  pub decimals : Gathered (length ws) (λ k. is_decimal (word ws k)) true count
  pub fits : Gathered (length ws) (λ k. value_fits no_data (decimal_value (word ws k))) fit count

-- an element that is met behind the first k
module _ {A : Type 0} (l : List A) (k : ℕ) (x d : A) (xs : List A) (e : drop k l ≡ x ∷ xs) where
  met_inside : k < length l
  met_inside = let n = ap length e in omega (arith, n, length-drop k l)

  pub met_is : get_or l k d ≡ x
  met_is = ap (λ (j : ℕ). get_or l j d) (sym (add-zero k)) ∙ sym (get_or-drop k l 0 d) ∙ ap (λ (m : List A). get_or m 0 d) e

  pub met_rest : drop (k + 1) l ≡ xs
  met_rest = sym (drop-drop 1 k l) ∙ ap (drop 1) e

module _ {text : List ℕ} {ws : List (List ℕ)} {no_data : Option ℤ} where
  pub look_none : {at p : ℕ} → ws ≡ words_of (drop at text) → Skipped text at p → Looking text ws no_data true 0 p
  look_none e s = record {
    within = s.within;
    begins = s.begins;
    few = omega arith;
    rest = s.words ∙ sym e;
    decimals = gather_none;
    fits = gather_none;
  }

  module _ {fit : Bool} {count p : ℕ} (g : Looking text ws no_data fit count p) (h : p < length text) where
    pub look_word : WordAt text p
    look_word = record { inside = h; begins = g.begins h }

    module _ {end : ℕ} (w : Word text p end) where
      met : drop count ws ≡ between text p end ∷ words_of (drop end text)
      met = sym g.rest ∙ w.words

      inside : count < length ws
      inside = met_inside ws count (between text p end) [] (words_of (drop end text)) met

      word_is : word ws count ≡ between text p end
      word_is = met_is ws count (between text p end) [] (words_of (drop end text)) met

      pub look_not : is_decimal (between text p end) ≡ false → all_decimals ws ≡ false
      look_not e = all_broken (length ws) (λ k. is_decimal (word ws k)) count inside (subst (λ (t : Bool). T (not t)) (sym (ap is_decimal word_is ∙ e)) tt)

      pub look_more : {r : Bool} {q : ℕ} → is_decimal (between text p end) ≡ true → r ≡ value_fits no_data (decimal_value (between text p end)) → Skipped text end q
          → Looking text ws no_data (fit && r) (count + 1) q
      look_more {r} {q} d f s = record {
        within = s.within;
        begins = s.begins;
        few = (let few = g.few in let b = w.behind in let n = s.from in omega arith);
        rest = s.words ∙ sym (met_rest ws count (between text p end) [] (words_of (drop end text)) met);
        decimals = gather_more g.decimals inside (sym (ap is_decimal word_is ∙ d));
        fits = gather_more g.fits inside (f ∙ sym (ap (λ (v : List ℕ). value_fits no_data (decimal_value v)) word_is));
      }

  pub look_all : {fit : Bool} {count p : ℕ} → Looking text ws no_data fit count p → length text ≤ p → Looked ws no_data count fit
  look_all {fit} {count} {p} g h =
      let none : drop count ws ≡ [] = sym g.rest ∙ no_words text p h in
      let n = ap length none in
      let most : length ws ≤ count = omega (arith, n, length-drop count ws) in
      let few = g.decimals.most in
      record {
        says = sym (gather_all g.decimals most);
        counted = omega arith;
        fits = gather_all g.fits most;
      }
