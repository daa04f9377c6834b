-- A loop that copies the front of one list over the front of another: what it keeps, and one law for each of its needs.
use Rattle.std.specs.Prelude.{◌≡◌, refl, List, ◌∷◌, ◌++◌, ℕ, suc, ◌+◌, ◌≤◌, ◌<◌, length, take, drop, set, get_or}
use Rattle.std.proofs.Common.{sym, ◌∙◌, ap, zero-le, le_antisymm, add-one, arith, length-append, length-drop, take-suc, drop-cons, length-take-le}
use Rattle.std.proofs.Math.Seq.{append_snoc, set-append_seam}

-- of n places the first k are copied from `source`, and the rest is as it was in `old`
pub record Copied {X : Type 0} (n : ℕ) (source old : List X) (k : ℕ) (new : List X) : Type 0 where
  pub most : k ≤ n
  pub is : new ≡ take k source ++ drop k old

module _ {X : Type 0} {n : ℕ} {source old : List X} where
  pub copy_none : Copied n source old 0 old
  copy_none = record { most = zero-le; is = refl }

  pub copy_length : {k : ℕ} {new : List X} → Copied n source old k new → n ≤ length source → n ≤ length old → length new ≡ length old
  copy_length {k} f h g =
      let most = f.most in
      ap length f.is ∙ length-append (take k source) (drop k old) ∙ rw (length-take-le k source (omega arith), length-drop k old) (omega arith)

  pub copy_more : (d : X) {k : ℕ} {new : List X} → Copied n source old k new → k < n → n ≤ length source → n ≤ length old → Copied n source old (k + 1) (set new k (get_or source k d))
  copy_more d {k} {new} f l h g =
      let m : length (take k source) ≡ k = length-take-le k source (omega arith) in
      record {
        most = omega arith;
        is = ap (λ (xs : List X). set xs k (get_or source k d)) f.is
            ∙ ap (λ (ys : List X). set (take k source ++ ys) k (get_or source k d)) (drop-cons old k d (omega arith))
            ∙ ap (λ (j : ℕ). set (take k source ++ (get_or old k d ∷ drop (suc k) old)) j (get_or source k d)) (sym m)
            ∙ set-append_seam (take k source) (get_or old k d) (drop (suc k) old) (get_or source k d)
            ∙ sym (append_snoc (take k source) (get_or source k d) (drop (suc k) old))
            ∙ ap (λ (xs : List X). xs ++ drop (suc k) old) (sym (take-suc source k d (omega arith)))
            ∙ ap (λ (j : ℕ). take j source ++ drop j old) (sym (add-one k));
      }

  pub copy_all : {k : ℕ} {new : List X} → Copied n source old k new → n ≤ k → new ≡ take n source ++ drop n old
  copy_all {k} f h = f.is ∙ ap (λ (j : ℕ). take j source ++ drop j old) (le_antisymm f.most h)
