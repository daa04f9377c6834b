-- What is gathered over the words of a table, from the last word back in its definition and from the first on in a fold: one law for all of them.
use Rattle.std.specs.Prelude.{ℕ, ◌+◌, ◌≡◌, refl, true, false, cond, ◌&&◌, ◌||◌, List, [], ◌∷◌, eqb}
use Rattle.std.specs.List.{fold}
use Rattle.std.proofs.Common.{sym, ◌∙◌, ap, add-zero, zero-add, add_assoc}
use Rattle.std.proofs.Math.Bool.{and-true, and_assoc, or-false, or_assoc}
use Rattle.pins_rules.specs.Table.{crew_of, stands, held, word_fits, words_fit}

-- `f` joins what `part` gives of a word to what it gives of those behind it
pub record Fold {X : Type 0} (f : List ℕ → X) (start : X) (join : X → X → X) (part : ℕ → X) : Type 0 where
  pub begins : (x : X) → join start x ≡ x
  pub ends : (x : X) → join x (f []) ≡ x
  pub joins : (w : ℕ) (rest : List ℕ) → f (w ∷ rest) ≡ join (part w) (f rest)
  pub grouped : (x y z : X) → join (join x y) z ≡ join x (join y z)

-- ---- three of a table

pub stands_fold : (word : ℕ) → Fold (stands word) false ◌||◌ (λ w. eqb w word)
unfolding stands
stands_fold word = record { begins = λ x. refl; ends = or-false; joins = λ w rest. refl; grouped = or_assoc }

pub words_fold : Fold words_fit true ◌&&◌ word_fits
unfolding words_fit
words_fold = record { begins = λ x. refl; ends = and-true; joins = λ w rest. refl; grouped = and_assoc }

pub held_fold : (crew : ℕ) → Fold (held crew) 0 ◌+◌ (λ w. cond (eqb (crew_of w) crew) 1 0)
unfolding held
held_fold crew = record { begins = zero-add; ends = add-zero; joins = λ w rest. refl; grouped = add_assoc }

-- ---- gathered from the first word on

module _ {X : Type 0} {f : List ℕ → X} {start : X} {join : X → X → X} {part : ℕ → X} (φ : Fold f start join part) where
  folded_onto : (sum : X) (words : List ℕ) → fold (λ x w. join x (part w)) sum words ≡ join sum (f words)
  folded_onto sum [] = sym (φ.ends sum)
  folded_onto sum (w ∷ rest) = folded_onto (join sum (part w)) rest ∙ φ.grouped sum (part w) (f rest) ∙ sym (ap (join sum) (φ.joins w rest))

  pub folded : (words : List ℕ) → fold (λ x w. join x (part w)) start words ≡ f words
  folded words = folded_onto start words ∙ φ.begins (f words)
