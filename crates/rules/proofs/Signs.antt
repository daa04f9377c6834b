-- Signs in sums, products and quotients of whole numbers; `forward` and `backward` of a number turned round, and of a sum.
use Prim.Native.Nat.{ℕ, zero, suc, ◌+◌, ◌-◌, ◌*◌, ◌/◌, ◌≤◌, zero-le}
use mathlib.Core.Path.{◌≡◌, refl, sym, ap, ◌∙◌}
use mathlib.Core.Bool.{Bool, true, false, cond}
use native.Mathlib.Nat.{zero-div, zero-mul, le_refl}
use native.Mathlib.Omega.{arith}
use lib.IntN.{ℤ, pos, negsuc, neg_ℤ, ◌+ℤ◌, ◌*ℤ◌, neg_ℤ-neg_ℤ, neg_ℤ-+ℤ, +ℤ_comm, +ℤ_assoc, *ℤ_comm}
use lib.Signed.{quot_z}
use lib.Dec.{ltb}
use Rattle.rules.specs.Step.{forward, backward}

pub neg-mul : (a b : ℤ) → neg_ℤ a *ℤ b ≡ neg_ℤ (a *ℤ b)
neg-mul (pos zero) (pos b) = rw zero-mul
neg-mul (pos zero) (negsuc b) = rw zero-mul
neg-mul (pos (suc a)) (pos b) = refl
neg-mul (pos (suc a)) (negsuc b) = sym (neg_ℤ-neg_ℤ (pos (suc a * suc b)))
neg-mul (negsuc a) (pos b) = sym (neg_ℤ-neg_ℤ (pos (suc a * b)))
neg-mul (negsuc a) (negsuc b) = refl

pub mul-neg : (a b : ℤ) → a *ℤ neg_ℤ b ≡ neg_ℤ (a *ℤ b)
mul-neg a b = *ℤ_comm a (neg_ℤ b) ∙ neg-mul b a ∙ ap neg_ℤ (*ℤ_comm b a)

-- the quotient towards zero favours no sign
pub neg-quot : (a b : ℤ) → quot_z (neg_ℤ a) b ≡ neg_ℤ (quot_z a b)
neg-quot (pos zero) (pos b) = rw zero-div
neg-quot (pos zero) (negsuc b) = rw zero-div
neg-quot (pos (suc a)) (pos b) = refl
neg-quot (pos (suc a)) (negsuc b) = sym (neg_ℤ-neg_ℤ (pos (suc a / suc b)))
neg-quot (negsuc a) (pos b) = sym (neg_ℤ-neg_ℤ (pos (suc a / b)))
neg-quot (negsuc a) (negsuc b) = refl

pub +ℤ-left-comm : (a b c : ℤ) → a +ℤ (b +ℤ c) ≡ b +ℤ (a +ℤ c)
+ℤ-left-comm a b c = sym (+ℤ_assoc a b c) ∙ ap (λ (x : ℤ). x +ℤ c) (+ℤ_comm a b) ∙ +ℤ_assoc b a c

-- sums, sorted, with the signs at their leaves
pub ruleset sums = (+ℤ_assoc, +ℤ_comm, +ℤ-left-comm, neg_ℤ-+ℤ, neg_ℤ-neg_ℤ, neg-mul, mul-neg)

-- a difference taken the other way round
pub turned_difference : (a b : ℤ) → a +ℤ neg_ℤ b ≡ neg_ℤ (b +ℤ neg_ℤ a)
turned_difference a b = simp sums

-- ---- forward and backward: of a number turned round

pub forward-neg : (z : ℤ) → forward (neg_ℤ z) ≡ backward z
unfolding forward backward
forward-neg (pos zero) = refl
forward-neg (pos (suc n)) = refl
forward-neg (negsuc n) = refl

pub backward-neg : (z : ℤ) → backward (neg_ℤ z) ≡ forward z
unfolding forward backward
backward-neg (pos zero) = refl
backward-neg (pos (suc n)) = refl
backward-neg (negsuc n) = refl

-- and of a sum: no more than of its parts together
mixed : (a b : ℕ) (less : Bool) → forward (cond less (negsuc (suc b - suc a)) (pos (a - suc b))) ≤ a
unfolding forward
mixed a b true = zero-le
mixed a b false = omega arith

pub forward-sum : (a b : ℤ) → forward (a +ℤ b) ≤ forward a + forward b
unfolding forward
forward-sum (pos a) (pos b) = le_refl (a + b)
forward-sum (pos a) (negsuc b) = omega (arith, mixed a b (ltb a (suc b)))
forward-sum (negsuc a) (pos b) = omega (arith, mixed b a (ltb b (suc a)))
forward-sum (negsuc a) (negsuc b) = zero-le

pub backward-sum : (a b : ℤ) → backward (a +ℤ b) ≤ backward a + backward b
backward-sum a b = rw (← forward-neg (a +ℤ b), ← forward-neg a, ← forward-neg b, neg_ℤ-+ℤ a b) (forward-sum (neg_ℤ a) (neg_ℤ b))
