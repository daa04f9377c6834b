-- Signs as the code tests them: a number below 0, turned, and one not below 0.
use Rattle.std.specs.Prelude.{◌≡◌, true, false, T, ℤ, pos, negsuc, neg_ℤ}
use Rattle.std.proofs.Common.{subst, arith, ltb-true}
use Rattle.std.specs.Int.Signed.{lt_z, non_neg}

pub turned_up : (z : ℤ) → lt_z z (pos 0) ≡ true → T (non_neg (neg_ℤ z))
turned_up (pos n) t = let h = ltb-true n 0 t in absurd (omega arith)
turned_up (negsuc n) t = tt

pub not_under : (z : ℤ) → lt_z z (pos 0) ≡ false → T (non_neg z)
not_under (pos n) t = tt
not_under (negsuc n) t = subst T t tt
