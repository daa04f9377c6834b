-- `greatest`: the fold of the first n words is the definition's greatest, one word more at a time.
use Rattle.std.proofs.Common.{rules, ◌≡◌, ◌+◌, ◌≤◌, pos, length, get_or, ℕ, zero, suc, List, ℤ, take, arith, sym, subst, ap, ◌∙◌}
use native.Mathlib.Numerals.{add-one}
use Rattle.std.specs.List.{fold}
use Rattle.std.proofs.lemmas.List.Sums.{fold_more}
use Rattle.rules.specs.Grid.{max_z, greatest as grid_greatest}
use Rattle.laws.specs.Grids.{greatest_none, greatest_more}
use Rattle.lists.proofs.greatest.Goals as goal

folded : (s : List ℤ) (n : ℕ) → n ≤ length s → fold max_z (pos 0) (take n s) ≡ grid_greatest n (λ k. get_or s k (pos 0))
folded s zero h = sym (greatest_none _)
folded s (suc n) h =
    subst (λ (m : ℕ). fold max_z (pos 0) (take m s) ≡ grid_greatest m (λ k. get_or s k (pos 0))) (add-one n)
    (fold_more max_z (pos 0) s n (pos 0) (omega arith) ∙ ap (λ (z : ℤ). max_z z (get_or s n (pos 0))) (folded s n (omega arith)) ∙ sym (greatest_more n _))

pub returns : goal.returns
returns c =
    let is : c.fold.result ≡ fold max_z (pos 0) (take c.args.n c.args.s.now) = search rules in
    search (rules, is, folded)
