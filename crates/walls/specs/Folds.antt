-- A test folded over the numbers below n, without a branch, is the test at every one of them.
use Rattle.std.specs.Prelude.{ℕ, zero, suc, ◌≤◌, ◌<◌, ◌≡◌, Bool, true, ◌&&◌, List, [], ◌∷◌, ◌++◌, length, take}
use Rattle.std.specs.List.{fold, range_with_len}
use Rattle.std.proofs.Common.{refl, sym, ap, ap₂, ◌∙◌, arith, add-one, zero-add}
use lib.Seq.{take-length}
use Rattle.std.proofs.lemmas.List.Sums.{fold_more}
use Rattle.std.proofs.lemmas.List.FromFn.{length-range_with_len, get_or-range_with_len}
use Rattle.rules.specs.Grid.{all}

module _ (p : ℕ → Bool) (n : ℕ) where
  abbrev both : Bool → ℕ → Bool
  both b k = b && p k

  -- one number more
  behind : (ys : List ℕ) (x : ℕ) (b : Bool) → fold both b (ys ++ (x ∷ [])) ≡ both (fold both b ys) x
  behind [] x b = refl
  behind (y ∷ ys) x b = behind ys x (both b y)

  pub folded_more : (ys : List ℕ) (x : ℕ) {b r : Bool} → b ≡ fold both true ys → r ≡ (b && p x) → r ≡ fold both true (ys ++ (x ∷ []))
  folded_more ys x e q = q ∙ ap (λ (b : Bool). b && p x) e ∙ sym (behind ys x true)

  so_far : (k : ℕ) → k ≤ n → fold both true (take k (range_with_len 0 n)) ≡ all k p
  unfolding all
  so_far zero h = refl
  so_far (suc k) h =
      let within : k < length (range_with_len 0 n) = omega (arith, h, length-range_with_len 0 n) in
      ap (λ (m : ℕ). fold both true (take m (range_with_len 0 n))) (sym (add-one k))
      ∙ fold_more both true (range_with_len 0 n) k 0 within
      ∙ ap₂ (λ (b : Bool) (i : ℕ). b && p i) (so_far k (omega (arith, h))) (get_or-range_with_len 0 n k 0 h ∙ zero-add k)

  pub folded_all : fold both true (range_with_len 0 n) ≡ all n p
  folded_all =
      ap (fold both true) (sym (take-length (range_with_len 0 n)))
      ∙ ap (λ (m : ℕ). fold both true (take m (range_with_len 0 n))) (length-range_with_len 0 n)
      ∙ so_far n (omega arith)
