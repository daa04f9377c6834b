-- How long a depth text is.
use mathlib.Core.Bool.{Bool, true, false, cond}
use mathlib.Core.List.{[], ◌++◌}
use Prim.Native.Nat.{ℕ, ◌+◌, ◌/◌, ◌≤◌, zero-le}
use native.Mathlib.Omega.{arith}
use lib.ListN.{length, length-append}
use lib.IntN.{ℤ, pos, negsuc}
use Rattle.rules.specs.Text.{decimal, dry, under_one, cm, height_text, depth_text}
use Rattle.laws.specs.Decimals.{length-decimal}
use lib.Dec.{T, leb, ltb, eqb, leb→le}

module _ (h : ℕ) where
  -- the three cases of a height's text
  cases : (a b d : Bool) → (T d → length (decimal ((h + 5000) / 10000)) ≤ 4) → length (cond a dry (cond b under_one (cond d (decimal ((h + 5000) / 10000) ++ cm) []))) ≤ 7
  cases true b d k = omega arith
  cases false true d k = omega arith
  cases false false true k = let four = k tt in rw (length-append (decimal ((h + 5000) / 10000)) cm) (omega arith)
  cases false false false k = omega arith

  length_height : length (height_text h) ≤ 7
  unfolding height_text
  length_height =
      cases (eqb h 0) (ltb h 10000) (leb h 50000000)
      (λ t. let high = leb→le h 50000000 t in length-decimal 3 16 ((h + 5000) / 10000) (omega arith) (omega arith))

pub length_depth : (z : ℤ) → length (depth_text z) ≤ 7
unfolding depth_text
length_depth (pos h) = length_height h
length_depth (negsuc n) = zero-le
