-- A transfer as the code computes it: one quotient, and nothing where the upwind cell is empty.
use Prim.Native.Nat.{ℕ, zero, suc, ◌*◌, ◌/◌}
use mathlib.Core.Path.{◌≡◌, refl, sym, ◌∙◌}
use mathlib.Core.Bool.{cond}
use native.Mathlib.Nat.{zero-mul, mul-zero, zero-div}
use lib.Dec.{T, leb-suc-zero}
use lib.IntN.{ℤ, pos, negsuc, neg_ℤ, nat_abs, ◌*ℤ◌, zero-*ℤ}
use lib.Signed.{le_z, lt_z, quot_z}
use Rattle.rules.specs.Step.{transfer}
use Rattle.laws.specs.Numbers.{neg-mul, neg-quot}

-- the size by floor and the sign apart are one quotient towards zero
ahead : (h : ℤ) (n dt k : ℕ) → T (le_z (pos 0) h) → quot_z (h *ℤ pos n *ℤ pos dt) (pos k) ≡ pos (nat_abs h * n * dt / k)
ahead (pos a) n dt k p = refl
ahead (negsuc a) n dt k p = absurd p

back : (h : ℤ) (n dt k : ℕ) → T (le_z (pos 0) h) → quot_z (h *ℤ negsuc n *ℤ pos dt) (pos k) ≡ neg_ℤ (pos (nat_abs h * suc n * dt / k))
back (pos a) n dt k p = rw (neg-mul, neg-quot)
back (negsuc a) n dt k p = absurd p

pub transfer-quot : (h_k h_l u : ℤ) (dt d : ℕ) → T (le_z (pos 0) h_k) → T (le_z (pos 0) h_l)
    → quot_z (cond (lt_z u (pos 0)) h_l h_k *ℤ u *ℤ pos dt) (pos (1000 * d)) ≡ transfer dt d h_k h_l u
unfolding transfer
transfer-quot h_k h_l (pos zero) dt d p q = ahead h_k 0 dt (1000 * d) p ∙ simp (mul-zero, zero-mul, zero-div)
transfer-quot h_k h_l (pos (suc n)) dt d p q = rw leb-suc-zero (ahead h_k (suc n) dt (1000 * d) p)
transfer-quot h_k h_l (negsuc n) dt d p q = back h_l n dt (1000 * d) q

-- an empty upwind cell
pub transfer_none : (h_k h_l u : ℤ) (dt d : ℕ) → T (le_z (pos 0) h_k) → T (le_z (pos 0) h_l) → cond (lt_z u (pos 0)) h_l h_k ≡ pos 0 → pos 0 ≡ transfer dt d h_k h_l u
transfer_none h_k h_l u dt d p q e = sym (rw (e, zero-*ℤ, zero-mul, zero-div)) ∙ transfer-quot h_k h_l u dt d p q
