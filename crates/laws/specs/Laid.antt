-- A list with some elements laid over its own: what it holds, and one thing laid behind another.
use Prim.Native.Nat.{ℕ, suc, ◌+◌, ◌<◌, ◌≤◌}
use Rattle.std.specs.Prelude.{◌≡◌}
use Rattle.std.proofs.Math.Path.{sym, ap}
use Rattle.std.proofs.Common.{◌∙◌, add-zero, zero-add, add-suc, le_refl, drop-set-lt, get_or-set_same}
use mathlib.Core.List.{List, [], ◌∷◌, ◌++◌, append_assoc}
use Rattle.std.proofs.Math.Nat.{add_assoc}
use native.Mathlib.Omega.{arith}
use lib.ListN.{length, take, drop, set, length-append, length-drop, take-append-drop}
use Rattle.std.proofs.Math.Seq.{length-take-le, take_at, drop_at, drop-drop, drop-cons}
use Rattle.std.proofs.lemmas.List.{take-set-le}

-- old with the elements new in the place of its own from index at on
unfoldable pub laid : {A : Type 0} → (old : List A) (at : ℕ) (new : List A) → List A
laid old at new = take at old ++ (new ++ drop (at + length new) old)

module _ {A : Type 0} where
  pub length_laid : (old : List A) (at : ℕ) (x : List A) → at + length x ≤ length old → length (laid old at x) ≡ length old
  unfolding laid
  length_laid old at x h =
      let h₁ : at ≤ length old = omega arith in
      length-append (take at old) _ ∙ simp (length-append, length-take-le at old h₁, length-drop) (omega arith)

  -- nothing laid
  pub laid_none : (old : List A) (at : ℕ) → laid old at [] ≡ old
  unfolding laid
  laid_none old at = ap (λ (n : ℕ). take at old ++ drop n old) (add-zero at) ∙ take-append-drop at old

  -- what is laid behind what was laid
  pub laid_laid : (old : List A) (at : ℕ) (x y : List A) (m : ℕ) → m ≡ at + length x → m ≤ length old → laid (laid old at x) m y ≡ laid old at (x ++ y)
  unfolding laid
  laid_laid old at x y m e h =
      let h₁ : at ≤ length old = omega arith in
      let p = take at old ++ x in
      let k : length p ≡ m = length-append (take at old) x ∙ ap (λ (n : ℕ). n + length x) (length-take-le at old h₁) ∙ sym e in
      let L = take at old ++ (x ++ drop (at + length x) old) in
      let q : L ≡ p ++ drop m old = ap (λ (n : ℕ). take at old ++ (x ++ drop n old)) (sym e) ∙ sym (append_assoc (take at old) x (drop m old)) in
      let front : take m L ≡ p = ap (take m) q ∙ take_at p (drop m old) m k in
      let rest : drop m L ≡ drop m old = ap (drop m) q ∙ drop_at p (drop m old) m k in
      let back : drop (m + length y) L ≡ drop (m + length y) old = sym (drop-drop (length y) m L) ∙ ap (drop (length y)) rest ∙ drop-drop (length y) m old in
      let far : m + length y ≡ at + length (x ++ y) = ap (λ (n : ℕ). n + length y) e ∙ add_assoc at (length x) (length y) ∙ ap (λ (n : ℕ). at + n) (sym (length-append x y)) in
      ap (λ (l : List A). l ++ (y ++ drop (m + length y) L)) front
      ∙ ap (λ (l : List A). p ++ (y ++ l)) back
      ∙ append_assoc (take at old) x _
      ∙ ap (λ (l : List A). take at old ++ l) (sym (append_assoc x y _))
      ∙ ap (λ (n : ℕ). take at old ++ ((x ++ y) ++ drop n old)) far

  -- what is laid from the front on
  pub laid_front : (old x : List A) → laid old 0 x ≡ x ++ drop (length x) old
  unfolding laid
  laid_front old x = ap (λ (n : ℕ). x ++ drop n old) (zero-add (length x))

  -- the last element first, and then those in front of it
  pub laid_last : (old : List A) (at : ℕ) (x : List A) (v : A) (m : ℕ) → m ≡ at + length x → m < length old → laid (set old m v) at x ≡ laid old at (x ++ (v ∷ []))
  unfolding laid
  laid_last old at x v m e h =
      let h₁ : at ≤ m = omega arith in
      let l : m < length (set old m v) = rw (lib.ListN.length-set old m v) h in
      let b : drop m (set old m v) ≡ v ∷ drop (suc m) old =
      drop-cons (set old m v) m v l
      ∙ ap (λ (a : A). a ∷ drop (suc m) (set old m v)) (get_or-set_same old m v v h)
      ∙ ap (λ (r : List A). v ∷ r) (drop-set-lt (suc m) old m v (le_refl (suc m))) in
      let far : suc m ≡ at + length (x ++ (v ∷ [])) = ap suc e ∙ sym (add-suc at (length x)) ∙ ap (λ (n : ℕ). at + n) (sym (length-append x (v ∷ []) ∙ omega arith)) in
      ap (λ (l : List A). l ++ (x ++ drop (at + length x) (set old m v))) (take-set-le at old m v h₁)
      ∙ ap (λ (n : ℕ). take at old ++ (x ++ drop n (set old m v))) (sym e)
      ∙ ap (λ (r : List A). take at old ++ (x ++ r)) b
      ∙ ap (λ (r : List A). take at old ++ r) (sym (append_assoc x (v ∷ []) (drop (suc m) old)))
      ∙ ap (λ (n : ℕ). take at old ++ ((x ++ (v ∷ [])) ++ drop n old)) far
