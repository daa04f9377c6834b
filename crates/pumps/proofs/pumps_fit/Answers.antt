-- `pumps_fit`: every pump of the list fits, or one does not.
use Rattle.std.proofs.Common.{rules, arith, sym, ◌≡◌, ℕ, ◌/◌, ◌<◌, Bool, true, false, subst, zero-le, length}
use Rattle.std.specs.Bool.{MatchBool}
use Rattle.std.specs.List.{AllWithin, HoldsAt, range_with_len}
use Rattle.std.proofs.lemmas.List.FromFn.{length-range_with_len, get_or-range_with_len}
use Rattle.std.proofs.lemmas.Iterator.{cases_from_all, YieldsList-from_range}
use Rattle.rules.specs.Grid.{all}
use Rattle.rules.specs.Pumps.{pumps_fit, pump_fits, pump_at}
use Rattle.laws.specs.Tests.{to_T, true_of}
use Rattle.laws.specs.Grids.{all_intro, all_broken}
use Rattle.pumps.proofs.pumps_fit.Goals as goal

-- what the chain says of the numbers below n
told : (n : ℕ) (p : ℕ → Bool) (r : Bool)
    → MatchBool r (AllWithin (λ k. p k ≡ true) (range_with_len 0 n) 0 (length (range_with_len 0 n))) ((k : ℕ) × (k < length (range_with_len 0 n)) × HoldsAt (λ k. p k ≡ false) (range_with_len 0 n) k)
    → r ≡ all n p
told n p true e =
    sym (true_of _ (all_intro n p (λ i h. to_T (subst (λ (k : ℕ). p k ≡ true) (omega (arith, get_or-range_with_len 0 n i 0 h)) (e i 0 zero-le (omega (arith, h, length-range_with_len 0 n)))))))
told n p false (k, h, e) =
    let low : k < n = omega (arith, h, length-range_with_len 0 n) in
    let no : p k ≡ false = subst (λ (j : ℕ). p j ≡ false) (omega (arith, get_or-range_with_len 0 n k 0 low)) (e 0) in
    sym (all_broken n p k low (rw no tt))

pub returns : goal.returns
unfolding pumps_fit
returns c =
    let fits = λ (k : ℕ). pump_fits c.args.card (pump_at c.args.pumps.now k) in
    let n = length c.args.pumps.now / 2 in
    told n fits c.all.result
    (cases_from_all _ _ _ (λ k. fits k ≡ true) (λ k. fits k ≡ false) c.all.ensures.ran (YieldsList-from_range 0 n n (search rules) (omega arith)) (λ x q k. search rules) (λ x q k. search rules))
