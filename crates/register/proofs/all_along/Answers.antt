-- `all_along`: the fold over the numbers is the test at every place.
use Rattle.std.proofs.Common.{rules, add-one}
use Rattle.std.specs.List.{fold}
use Rattle.std.proofs.lemmas.List.Sums.{fold_more}
use mathlib.Core.Path.{◌≡◌, refl, sym, ◌∙◌, ap}
use mathlib.Core.Bool.{Bool, true, ◌&&◌}
use mathlib.Core.List.{List}
use Prim.Native.Nat.{ℕ, zero, suc, ◌≤◌}
use native.Mathlib.Omega.{arith}
use lib.IntN.{ℤ, pos}
use lib.ListN.{length, get_or, take}
use lib.Seq.{take-length}
use Rattle.rules.specs.Grid.{all}
use Rattle.laws.specs.Between.{between}
use Rattle.register.proofs.all_along.Goals as goal

module _ (p : ℤ → Bool) (xs : List ℤ) where
  abbrev both : Bool → ℤ → Bool
  both b x = b && p x

  so_far : (k : ℕ) → k ≤ length xs → fold both true (take k xs) ≡ all k (λ i. p (get_or xs i (pos 0)))
  unfolding all
  so_far zero h = refl
  so_far (suc k) h =
      ap (λ (n : ℕ). fold both true (take n xs)) (sym (add-one k))
      ∙ fold_more both true xs k (pos 0) h
      ∙ ap (λ (b : Bool). b && p (get_or xs k (pos 0))) (so_far k (omega (arith, h)))

  gathered : fold both true xs ≡ all (length xs) (λ i. p (get_or xs i (pos 0)))
  gathered = ap (fold both true) (sym (take-length xs)) ∙ so_far (length xs) (omega arith)

pub returns : goal.returns
returns c =
    let far = c.args.far in
    let folded : c.fold.result ≡ fold (λ b x. b && between (pos 0) far x) true c.args.xs.now = search rules in
    folded ∙ gathered (between (pos 0) far) c.args.xs.now
