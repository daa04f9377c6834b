-- Laws of the integers that the kit lacks: the test for 0, quotients of 0, the order of `le_z`, and signs.
use Rattle.std.specs.Prelude.{ℕ, zero, suc, ◌+◌, ◌-◌, ◌<◌, ◌≡◌, refl, Bool, true, false, cond, ℤ, pos, negsuc, neg_ℤ, nat_abs, ◌+ℤ◌, T, eqb, ltb}
use Rattle.std.proofs.Common.{zero-le, ap, suc-ne-zero, pos_of_ne-zero, ne_of_gt, le_refl, le_trans, le_antisymm, arith, ne_eqb, eqb→eq, ltb→lt, leb→le, le→leb, lt→ltb}
use Rattle.std.proofs.Math.Nat.{zero-div}
use Rattle.std.proofs.lemmas.Bool.{eqb-false}
use Rattle.std.specs.Int.Signed.{le_z, lt_z, quot_z}
use Rattle.std.proofs.Math.Arith.{le→nltb}
use Rattle.laws.specs.Tests.{true_of, false_of}
-- the signs in sums, products and quotients, which `Fair` needs too
pub use Rattle.rules.proofs.Signs.{neg-mul, mul-neg, neg-quot, +ℤ-left-comm, sums}

-- the test for 0
pub no_size : (z : ℤ) → nat_abs z ≡ 0 → z ≡ pos 0
no_size (pos n) e = ap pos e
no_size (negsuc n) e = absurd (suc-ne-zero n e)

pub zero_is : (z : ℤ) → T (eqb (nat_abs z) 0) → z ≡ pos 0
zero_is z t = no_size z (eqb→eq (nat_abs z) 0 t)

pub above_is_not_0 : (z : ℤ) → T (lt_z (pos 0) z) → eqb (nat_abs z) 0 ≡ false
above_is_not_0 (pos n) t = ne_eqb n 0 (ne_of_gt (ltb→lt 0 n t))
above_is_not_0 (negsuc n) t = absurd t

pub not_0_is_above : (z : ℤ) → eqb (nat_abs z) 0 ≡ false → 0 < nat_abs z
not_0_is_above z e = pos_of_ne-zero (eqb-false (nat_abs z) 0 e)

pub abs_neg : (a : ℤ) → nat_abs (neg_ℤ a) ≡ nat_abs a
abs_neg (pos zero) = refl
abs_neg (pos (suc n)) = refl
abs_neg (negsuc n) = refl

-- 0 divided is 0
pub zero-quot : (b : ℤ) → quot_z (pos 0) b ≡ pos 0
zero-quot (pos b) = rw zero-div
zero-quot (negsuc b) = rw zero-div

-- ---- the order

pub le_z_antisymm : (a b : ℤ) → T (le_z a b) → T (le_z b a) → a ≡ b
le_z_antisymm (pos a) (pos b) h k = ap pos (le_antisymm (leb→le a b h) (leb→le b a k))
le_z_antisymm (pos a) (negsuc b) h k = absurd h
le_z_antisymm (negsuc a) (pos b) h k = absurd k
le_z_antisymm (negsuc a) (negsuc b) h k = ap negsuc (le_antisymm (leb→le a b k) (leb→le b a h))

pub le_z_trans : (a b c : ℤ) → T (le_z a b) → T (le_z b c) → T (le_z a c)
le_z_trans (pos a) (pos b) (pos c) h k = le→leb a c (le_trans (leb→le a b h) (leb→le b c k))
le_z_trans (pos a) (pos b) (negsuc c) h k = k
le_z_trans (pos a) (negsuc b) c h k = absurd h
le_z_trans (negsuc a) (pos b) (pos c) h k = tt
le_z_trans (negsuc a) (pos b) (negsuc c) h k = absurd k
le_z_trans (negsuc a) (negsuc b) (pos c) h k = tt
le_z_trans (negsuc a) (negsuc b) (negsuc c) h k = le→leb c a (le_trans (leb→le c b k) (leb→le b a h))

pub le_z_refl : (a : ℤ) → T (le_z a a)
le_z_refl (pos a) = le→leb a a (le_refl a)
le_z_refl (negsuc a) = le→leb a a (le_refl a)

-- a negated one is at most any other that is not
pub le_z_signs : (a b : ℕ) → T (le_z (neg_ℤ (pos a)) (pos b))
le_z_signs zero b = le→leb 0 b zero-le
le_z_signs (suc a) b = tt

-- ---- the order, sums and signs

diff : (a b : ℤ) → T (le_z a b) → (k : ℕ) × (b ≡ a +ℤ pos k)
diff (pos a) (pos b) t = (b - a, ap pos (let h = leb→le a b t in omega arith))
diff (pos a) (negsuc b) t = absurd t
diff (negsuc a) (pos b) t = (b + suc a, rw (false_of (ltb (b + suc a) (suc a)) (le→nltb (b + suc a) (suc a) (omega arith))) (ap pos (omega arith)))
diff (negsuc a) (negsuc b) t =
    let h = leb→le b a t in
    (a - b, rw (true_of (ltb (a - b) (suc a)) (lt→ltb (a - b) (suc a) (omega arith))) (ap negsuc (omega arith)))

up : (a : ℤ) (k : ℕ) → T (le_z a (a +ℤ pos k))
up (pos a) k = le→leb a (a + k) (omega arith)
up (negsuc a) k = go (ltb k (suc a))
  where
    go : (b : Bool) → T (le_z (negsuc a) (cond b (negsuc (suc a - suc k)) (pos (k - suc a))))
    go true = le→leb (suc a - suc k) a (omega arith)
    go false = tt

four : (a k c l : ℤ) → (a +ℤ k) +ℤ (c +ℤ l) ≡ (a +ℤ c) +ℤ (k +ℤ l)
four a k c l = simp sums

pub le_z-add : (a b c d : ℤ) → T (le_z a b) → T (le_z c d) → T (le_z (a +ℤ c) (b +ℤ d))
le_z-add a b c d s t =
    let p = diff a b s in
    let q = diff c d t in
    rw (p.1, q.1, four a (pos p.0) c (pos q.0)) (up (a +ℤ c) (p.0 + q.0))

pub le_z-neg : (a b : ℤ) → T (le_z a b) → T (le_z (neg_ℤ b) (neg_ℤ a))
le_z-neg (pos zero) (pos zero) t = tt
le_z-neg (pos zero) (pos (suc b)) t = tt
le_z-neg (pos (suc a)) (pos zero) t = absurd (let h = leb→le (suc a) zero t in omega arith)
le_z-neg (pos (suc a)) (pos (suc b)) t = le→leb a b (let h = leb→le (suc a) (suc b) t in omega arith)
le_z-neg (pos a) (negsuc b) t = absurd t
le_z-neg (negsuc a) (pos zero) t = le→leb zero (suc a) zero-le
le_z-neg (negsuc a) (pos (suc b)) t = tt
le_z-neg (negsuc a) (negsuc b) t = le→leb (suc b) (suc a) (let h = leb→le b a t in omega arith)
