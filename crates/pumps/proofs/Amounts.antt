-- What a pump of some amount adds, and what it takes from a height, by the larger and the smaller of two; and the tests of its cell and its amount.
use Prim.Native.Nat.{ℕ, zero, suc}
use mathlib.Core.Path.{◌≡◌, refl, ap}
use mathlib.Core.Bool.{Bool, true, false, cond, ◌&&◌}
use Rattle.std.proofs.Math.Arith.{le→nltb}
use native.Mathlib.Omega.{arith}
use lib.IntN.{ℤ, pos, negsuc, neg_ℤ, nat_abs}
use lib.Signed.{le_z, lt_z}
use lib.Dec.{T, leb, ltb, leb→le, nleb→lt, lt→ltb}
use Rattle.std.specs.Int.{int_min, int_max}
use Rattle.laws.specs.Between.{size_between}
use Rattle.laws.specs.Tests.{to_T, true_of, false_of}
use Rattle.rules.specs.Step.{forward, backward}
use Rattle.rules.specs.Pumps.{Pump, takes}

-- what an inlet adds is what is above 0 of its amount, and what a pump wants is what is below
pub adds_max : (amount : ℤ) → int_max amount (pos 0) ≡ pos (forward amount)
unfolding forward
adds_max (pos zero) = refl
adds_max (pos (suc n)) = rw (true_of (ltb 0 (suc n)) (lt→ltb 0 (suc n) (omega arith))) refl
adds_max (negsuc n) = refl

pub wants_max : (amount : ℤ) → int_max (neg_ℤ amount) (pos 0) ≡ pos (backward amount)
unfolding backward
wants_max (pos zero) = refl
wants_max (pos (suc n)) = refl
wants_max (negsuc n) = rw (true_of (ltb 0 (suc n)) (lt→ltb 0 (suc n) (omega arith))) refl

-- a pump takes the less of what it wants and what is there
pub takes_min : (p : Pump) (height : ℤ) → T (le_z (pos 0) height) → int_min (pos (backward p.amount)) height ≡ pos (takes p height)
unfolding takes
takes_min p (pos n) l = go (leb (backward p.amount) n) refl
  where
    go : (b : Bool) → leb (backward p.amount) n ≡ b → int_min (pos (backward p.amount)) (pos n) ≡ pos (cond b (backward p.amount) n)
    go true e = rw (false_of (ltb n (backward p.amount)) (le→nltb n (backward p.amount) (leb→le (backward p.amount) n (to_T e)))) refl
    go false e = rw (true_of (ltb n (backward p.amount)) (lt→ltb n (backward p.amount) (nleb→lt (backward p.amount) n (rw e tt)))) refl
takes_min p (negsuc n) l = absurd l

-- the tests of a cell among n, and of an amount: the last two are one of its size
pub in_range : (cell amount : ℤ) (n : ℕ) → (le_z (pos 0) cell && lt_z cell (pos n) && (le_z (negsuc 999999) amount && le_z amount (pos 1000000))) ≡ (le_z (pos 0) cell && lt_z cell (pos n) && leb (nat_abs amount) 1000000)
in_range cell amount n = ap (λ (b : Bool). le_z (pos 0) cell && lt_z cell (pos n) && b) (size_between 999999 amount)
