-- A number by the way it points (`forward`, `backward`): turned round, and beside its size and its order. Of a velocity, and of what crosses a face.
use Rattle.std.specs.Prelude.{ℕ, ◌≤◌, ℤ, pos, negsuc, neg_ℤ, nat_abs, T}
use Rattle.std.proofs.Common.{zero-le, arith, le→leb}
use Rattle.std.specs.Int.Signed.{le_z}
use Rattle.rules.specs.Step.{forward, backward}
use Rattle.laws.specs.Numbers.{le_z_refl}
use Rattle.laws.specs.Sizes.{nat_abs_ways, Within}
-- turned round
pub use Rattle.rules.proofs.Signs.{forward-neg, backward-neg}

-- either is at most the size, and where both are at most N the size is
pub forward_size : (z : ℤ) → forward z ≤ nat_abs z
forward_size z = omega (arith, nat_abs_ways z)

pub backward_size : (z : ℤ) → backward z ≤ nat_abs z
backward_size z = omega (arith, nat_abs_ways z)

pub within_ways : {N : ℕ} (z : ℤ) → forward z ≤ N → backward z ≤ N → Within N z
unfolding forward backward
within_ways (pos n) f b = record { size = f }
within_ways (negsuc n) f b = record { size = b }

-- a number lies between the two
pub at_most_forward : (z : ℤ) → T (le_z z (pos (forward z)))
unfolding forward
at_most_forward (pos n) = le_z_refl (pos n)
at_most_forward (negsuc n) = tt

pub at_least_backward : (z : ℤ) → T (le_z (neg_ℤ (pos (backward z))) z)
unfolding backward
at_least_backward (pos n) = le→leb 0 n zero-le
at_least_backward (negsuc n) = le_z_refl (negsuc n)
