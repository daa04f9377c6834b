-- A table in which no pin stands twice: so it stays where a new pin comes into a free place, and where a pin goes, which then stands there no more.
use Rattle.std.specs.Prelude.{ℕ, ◌≡◌, refl, Bool, true, false, not, ◌||◌, List, ◌∷◌, T, eqb}
use Rattle.std.proofs.Common.{sym, ◌∙◌, subst, inl, inr, eqb→eq, T_not, eq-eqb, ne_eqb}
use Rattle.std.proofs.Math.Dec.{not_T}
use Rattle.laws.specs.Tests.{false_of, to_T, and_both, and_left, and_right, or_cases, or_left, or_right}
use Rattle.pins_rules.specs.Table.{stands, each_once}
use Rattle.pins_laws.specs.Changes.{Changed, here, there, stood, others_stand}

-- the first word of such a table, if it is a pin, stands nowhere behind; and so of the rest
pub first_once : (w : ℕ) (rest : List ℕ) → T (each_once (w ∷ rest)) → (w ≡ 0 → ⊥) → T (not (stands w rest))
unfolding each_once
first_once w rest t h = elim (or_cases (eqb w 0) (not (stands w rest)) (and_left (eqb w 0 || not (stands w rest)) (each_once rest) t)) [
  | inl e ↦ absurd (h (eqb→eq w 0 e))
  | inr n ↦ n
]

pub rest_once : (w : ℕ) (rest : List ℕ) → T (each_once (w ∷ rest)) → T (each_once rest)
unfolding each_once
rest_once w rest t = and_right (eqb w 0 || not (stands w rest)) (each_once rest) t

-- a word before a table: free, or a pin that does not stand in it
once_free : (rest : List ℕ) → T (each_once rest) → T (each_once (0 ∷ rest))
unfolding each_once
once_free rest t = t

once_pin : (w : ℕ) (rest : List ℕ) → T (not (stands w rest)) → T (each_once rest) → T (each_once (w ∷ rest))
unfolding each_once
once_pin w rest n t = and_both (eqb w 0 || not (stands w rest)) (each_once rest) (or_right (eqb w 0) (not (stands w rest)) n) t

-- the first word of a table stays: what is to be shown of the rest is asked only where that word is a pin
once_there : (w : ℕ) (rest rest' : List ℕ) → T (each_once (w ∷ rest)) → ((w ≡ 0 → ⊥) → stands w rest' ≡ stands w rest) → T (each_once rest') → T (each_once (w ∷ rest'))
unfolding each_once
once_there w rest rest' t same later = go (eqb w 0) refl
  where
    go : (b : Bool) → eqb w 0 ≡ b → T (each_once (w ∷ rest'))
    go true e = subst (λ (v : ℕ). T (each_once (v ∷ rest'))) (sym (eqb→eq w 0 (to_T e))) (once_free rest' later)
    go false e =
        let pinned : w ≡ 0 → ⊥ = λ z. absurd (subst T (sym (eq-eqb w 0 z) ∙ e) tt) in
        once_pin w rest' (subst (λ (b : Bool). T (not b)) (sym (same pinned)) (first_once w rest t pinned)) later

-- a word that does not stand in a table is not its first one, and does not stand behind
not_first : (word w : ℕ) (rest : List ℕ) → T (not (stands word (w ∷ rest))) → w ≡ word → ⊥
unfolding stands
not_first word w rest n e = T_not (stands word (w ∷ rest)) n (or_left (eqb w word) (stands word rest) (to_T (eq-eqb w word e)))

not_behind : (word w : ℕ) (rest : List ℕ) → T (not (stands word (w ∷ rest))) → T (not (stands word rest))
unfolding stands
not_behind word w rest n = not_T (stands word rest) (λ s. T_not (stands word (w ∷ rest)) n (or_right (eqb w word) (stands word rest) s))

-- ---- a new pin comes into a free place

pub once_added : {pin : ℕ} {table table' : List ℕ} → Changed 0 pin table table' → T (not (stands pin table)) → T (each_once table) → T (each_once table')
once_added {pin} (here {rest = rest}) n t = once_pin pin rest (not_behind pin 0 rest n) (rest_once 0 rest t)
once_added {pin} (there {w = w} {rest = rest} {rest' = rest'} c) n t =
    once_there w rest rest' t (λ h. others_stand c (λ z. h (sym z)) (λ z. not_first pin w rest n (sym z)))
    (once_added c (not_behind pin w rest n) (rest_once w rest t))

-- ---- a pin goes

module _ {pin : ℕ} (h : pin ≡ 0 → ⊥) where
  -- it is no word before a place that has it
  no_other : {w : ℕ} {rest rest' : List ℕ} → Changed pin 0 rest rest' → T (each_once (w ∷ rest)) → w ≡ pin → ⊥
  no_other {w} {rest} c t e = T_not (stands w rest) (first_once w rest t (λ z. h (sym e ∙ z))) (subst (λ (v : ℕ). T (stands v rest)) (sym e) (stood c))

  pub once_removed : {table table' : List ℕ} → Changed pin 0 table table' → T (each_once table) → T (each_once table')
  once_removed (here {rest = rest}) t = once_free rest (rest_once pin rest t)
  once_removed (there {w = w} {rest = rest} {rest' = rest'} c) t =
      once_there w rest rest' t (λ k. others_stand c (λ z. no_other c t (sym z)) (λ z. k (sym z))) (once_removed c (rest_once w rest t))

  pub gone : {table table' : List ℕ} → Changed pin 0 table table' → T (each_once table) → stands pin table' ≡ false
  unfolding stands
  gone (here {rest = rest}) t = rw (ne_eqb 0 pin (λ z. h (sym z))) (false_of (stands pin rest) (first_once pin rest t h))
  gone (there {w = w} {rest = rest} {rest' = rest'} c) t = rw (ne_eqb w pin (no_other c t)) (gone c (rest_once w rest t))
