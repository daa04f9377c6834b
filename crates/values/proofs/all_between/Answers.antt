-- `all_between`: the fold over the places is the test at every place.
use mathlib.Core.Path.{◌≡◌, refl, ◌∙◌}
use mathlib.Core.Bool.{Bool, true, ◌&&◌}
use Prim.Native.Nat.{ℕ, ◌+◌}
use native.Mathlib.Omega.{arith}
use lib.IntN.{pos}
use lib.ListN.{get_or}
use Rattle.std.specs.List.{fold, range_with_len}
use Rattle.std.proofs.Common.{rules}
use Rattle.std.proofs.iter.Yields.{nat_range_steps}
use Rattle.std.proofs.lemmas.Fn.{fold_over}
use Rattle.std.proofs.lemmas.Iterator.{YieldsList-from_range}
use Rattle.laws.specs.Between.{between}
use Rattle.walls.specs.Folds.{folded_more, folded_all}
use Rattle.values.proofs.all_between.Goals as goal

pub returns : goal.returns
returns g c =
    let a = c.args in
    let p : ℕ → Bool = λ k. between a.low a.high (get_or (g.W.Words.words a.row) (a.start + k) (pos 0)) in
    let every = (YieldsList-from_range 0 a.n a.n refl (omega arith)).runs in
    fold_over nat_range_steps (λ x. x) _ (λ ys b. b ≡ fold (λ b k. b && p k) true ys) _
    (λ ys b x r f' j k. (folded_more p a.n ys x j (search rules), search rules))
    (record { start = 0; end = a.n }) (range_with_len 0 a.n) true c.fold.result every refl c.fold.ensures.ran
    ∙ folded_all p a.n
