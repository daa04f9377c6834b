-- A table in which one place got another word: what still stands in it, how many pins each crew has, and that it still passes.
use Rattle.std.specs.Prelude.{ℕ, suc, ◌+◌, ◌≡◌, refl, Bool, true, false, cond, ◌||◌, List, [], ◌∷◌, length, T}
use Rattle.std.proofs.Common.{sym, subst, eqb→eq}
use Rattle.std.proofs.Math.Path.{ap}
use native.Mathlib.Omega.{arith}
use Rattle.std.proofs.Math.Dec.{eqb}
use borrow.Author.Tests.{eq-eqb, ne_eqb}
use Rattle.laws.specs.Tests.{to_T, and_both, and_left, and_right, or_left, or_right}
use Rattle.pins_rules.specs.Table.{crew_of, stands, held, word_fits, words_fit, first_changed}

-- one place had the word `from` and has the word `to`, all others have what they had
pub data Changed (from to : ℕ) : List ℕ → List ℕ → Type 0 where
  here : {rest : List ℕ} → Changed from to (from ∷ rest) (to ∷ rest)
  there : {w : ℕ} {rest rest' : List ℕ} → Changed from to rest rest' → Changed from to (w ∷ rest) (w ∷ rest')

-- so it is where a word that stands there is changed at its first place
pub changed : (from to : ℕ) (table : List ℕ) → T (stands from table) → Changed from to table (first_changed from to table)
unfolding stands first_changed
changed from to [] t = absurd t
changed from to (w ∷ rest) t = go (eqb w from) refl t (changed from to rest)
  where
    go : (b : Bool) → eqb w from ≡ b → T (b || stands from rest) → (T (stands from rest) → Changed from to rest (first_changed from to rest))
        → Changed from to (w ∷ rest) (cond b (to ∷ rest) (w ∷ first_changed from to rest))
    go true e t later = subst (λ (v : ℕ). Changed from to (v ∷ rest) (to ∷ rest)) (sym (eqb→eq w from (to_T e))) here
    go false e t later = there (later t)

module _ {from to : ℕ} where
  pub changed_length : {table table' : List ℕ} → Changed from to table table' → length table' ≡ length table
  changed_length here = refl
  changed_length (there c) = ap suc (changed_length c)

  -- ---- what stands there

  pub stood : {table table' : List ℕ} → Changed from to table table' → T (stands from table)
  unfolding stands
  stood (here {rest = rest}) = or_left (eqb from from) (stands from rest) (to_T (eq-eqb from from refl))
  stood (there {w = w} {rest = rest} c) = or_right (eqb w from) (stands from rest) (stood c)

  pub stands_now : {table table' : List ℕ} → Changed from to table table' → T (stands to table')
  unfolding stands
  stands_now (here {rest = rest}) = or_left (eqb to to) (stands to rest) (to_T (eq-eqb to to refl))
  stands_now (there {w = w} {rest' = rest'} c) = or_right (eqb w to) (stands to rest') (stands_now c)

  -- any other word as before
  pub others_stand : {table table' : List ℕ} {word : ℕ} → Changed from to table table' → (from ≡ word → ⊥) → (to ≡ word → ⊥) → stands word table' ≡ stands word table
  unfolding stands
  others_stand {word = word} (here {rest = rest}) f g = rw (ne_eqb from word f, ne_eqb to word g)
  others_stand {word = word} (there {w = w} c) f g = ap (λ (b : Bool). eqb w word || b) (others_stand c f g)

  -- ---- how many pins a crew has

  pub held_changed : {table table' : List ℕ} (crew : ℕ) → Changed from to table table'
      → cond (eqb (crew_of from) crew) 1 0 + held crew table' ≡ cond (eqb (crew_of to) crew) 1 0 + held crew table
  unfolding held
  held_changed crew here = omega arith
  held_changed crew (there c) = let e = held_changed crew c in omega arith

  -- ---- that it passes

  pub words_fit_lem : {table table' : List ℕ} → Changed from to table table' → T (word_fits to) → T (words_fit table) → T (words_fit table')
  unfolding words_fit
  words_fit_lem (here {rest = rest}) h t = and_both (word_fits to) (words_fit rest) h (and_right (word_fits from) (words_fit rest) t)
  words_fit_lem (there {w = w} {rest = rest} {rest' = rest'} c) h t =
      and_both (word_fits w) (words_fit rest') (and_left (word_fits w) (words_fit rest) t) (words_fit_lem c h (and_right (word_fits w) (words_fit rest) t))
