-- The size |z| of an integer: of sums, products and quotients; a bound on it, and what keeps the bound.
use Rattle.std.specs.Prelude.{ℕ, suc, ◌+◌, ◌*◌, ◌/◌, ◌≤◌, ◌≡◌, refl, T, ℤ, pos, negsuc, neg_ℤ, nat_abs, ◌+ℤ◌, ◌-ℤ◌, ◌*ℤ◌}
use Rattle.std.proofs.Common.{le_refl, le_trans, le_of_eq, add-le-add, mul-le-mul, mul-le-mul_right, arith, leb→le}
use Rattle.std.proofs.Math.Nat.{le-suc, div-le_of_le-mul}
use Rattle.std.specs.Int.Signed.{mag, quot_z, le_z}
use Rattle.rules.specs.Step.{forward, backward}
use Rattle.rules.proofs.Signs.{forward-sum, backward-sum}
use Rattle.laws.specs.Numbers.{abs_neg}

pub nat_abs_mul : (x y : ℤ) → nat_abs (x *ℤ y) ≡ nat_abs x * nat_abs y
nat_abs_mul (pos a) (pos b) = refl
nat_abs_mul (pos a) (negsuc b) = abs_neg (pos (a * suc b))
nat_abs_mul (negsuc a) (pos b) = abs_neg (pos (suc a * b))
nat_abs_mul (negsuc a) (negsuc b) = refl

pub nat_abs-quot : (x y : ℤ) → nat_abs (quot_z x y) ≡ nat_abs x / nat_abs y
nat_abs-quot (pos a) (pos b) = refl
nat_abs-quot (pos a) (negsuc b) = abs_neg (pos (a / suc b))
nat_abs-quot (negsuc a) (pos b) = abs_neg (pos (suc a / b))
nat_abs-quot (negsuc a) (negsuc b) = refl

-- what points forward and what points backward make up the size, one of them being 0
pub nat_abs_ways : (z : ℤ) → nat_abs z ≡ forward z + backward z
unfolding forward backward
nat_abs_ways (pos n) = omega arith
nat_abs_ways (negsuc n) = omega arith

pub nat_abs-add : (x y : ℤ) → nat_abs (x +ℤ y) ≤ nat_abs x + nat_abs y
nat_abs-add x y = rw (nat_abs_ways (x +ℤ y), nat_abs_ways x, nat_abs_ways y) (omega (arith, forward-sum x y, backward-sum x y))

-- `mag`, by which the machine's ranges are stated, is at most the size
pub mag_le : (z : ℤ) → mag z ≤ nat_abs z
mag_le (pos n) = le_refl n
mag_le (negsuc n) = le-suc n

-- ---- |z| ≤ N; a record, so that N and z are inferred from it

pub record Within (N : ℕ) (z : ℤ) : Type 0 where
  pub size : nat_abs z ≤ N

pub within_nat : {N n : ℕ} → n ≤ N → Within N (pos n)
within_nat h = record { size = h }

pub within-neg : {N : ℕ} {x : ℤ} → Within N x → Within N (neg_ℤ x)
within-neg {x} p = record { size = le_trans (le_of_eq (abs_neg x)) p.size }

pub within-add : {N M : ℕ} {x y : ℤ} → Within N x → Within M y → Within (N + M) (x +ℤ y)
within-add {x} {y} p q = record { size = le_trans (nat_abs-add x y) (add-le-add p.size q.size) }

pub within-sub : {N M : ℕ} {x y : ℤ} → Within N x → Within M y → Within (N + M) (x -ℤ y)
within-sub p q = within-add p (within-neg q)

pub within-mul : {N M : ℕ} {x y : ℤ} → Within N x → Within M y → Within (N * M) (x *ℤ y)
within-mul {x} {y} p q = record { size = le_trans (le_of_eq (nat_abs_mul x y)) (mul-le-mul p.size q.size) }

-- a quotient by at least m
pub within-quot : {N : ℕ} {x : ℤ} (m n k : ℕ) → Within N x → N ≤ m * k → m ≤ n → Within k (quot_z x (pos n))
within-quot {x} m n k p h l =
    record { size = le_trans (le_of_eq (nat_abs-quot x (pos n))) (div-le_of_le-mul n (le_trans p.size (le_trans h (mul-le-mul_right k l)))) }

-- between 0 and N
pub within_order : {N : ℕ} (z : ℤ) → T (le_z (pos 0) z) → T (le_z z (pos N)) → Within N z
within_order {N} (pos n) l h = record { size = leb→le n N h }
within_order (negsuc n) l h = absurd l
