-- What a face counts in a cell's limit is at most its speed, whatever was asked of it; and asked whether it points out, what `rules` counts.
use Prim.Native.Nat.{zero, suc, ◌≤◌, zero-le, suc-le-suc}
use mathlib.Core.Path.{◌≡◌, refl}
use mathlib.Core.Bool.{Bool, true, false}
use native.Mathlib.Nat.{le_refl}
use lib.IntN.{ℤ, pos, negsuc, nat_abs}
use lib.Signed.{le_z, lt_z}
use lib.Dec.{leb, ltb, le→leb, lt→ltb, leb-suc-zero}
use lib.Arith.{le→nltb}
use Rattle.rules.specs.Step.{forward, backward}
use Rattle.laws.specs.Tests.{true_of, false_of}
use Rattle.face.specs.Counts.{counts}

pub counts_most : (out : Bool) (v : ℤ) → counts out v ≤ nat_abs v
unfolding counts
counts_most true v = le_refl (nat_abs v)
counts_most false v = zero-le

-- points west or south, or is still
pub counts_backward : (v : ℤ) → counts (lt_z v (pos 0)) v ≡ backward v
unfolding counts backward
counts_backward (pos n) = rw (false_of (ltb n 0) (le→nltb n 0 zero-le))
counts_backward (negsuc n) = refl

pub counts_not_forward : (v : ℤ) → counts (le_z v (pos 0)) v ≡ backward v
unfolding counts backward
counts_not_forward (pos zero) = refl
counts_not_forward (pos (suc n)) = rw (leb-suc-zero)
counts_not_forward (negsuc n) = refl

-- points east or north, or is still
pub counts_forward : (v : ℤ) → counts (lt_z (pos 0) v) v ≡ forward v
unfolding counts forward
counts_forward (pos zero) = refl
counts_forward (pos (suc n)) = rw (true_of (ltb 0 (suc n)) (lt→ltb 0 (suc n) (suc-le-suc zero-le)))
counts_forward (negsuc n) = refl

pub counts_not_backward : (v : ℤ) → counts (le_z (pos 0) v) v ≡ forward v
unfolding counts forward
counts_not_backward (pos n) = rw (true_of (leb 0 n) (le→leb 0 n zero-le))
counts_not_backward (negsuc n) = refl
