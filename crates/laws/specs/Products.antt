-- Products and sums of whole numbers, laws that the kit lacks: a product with a sum, the difference of two squares, and a product divided by one of its factors.
use Rattle.std.specs.Prelude.{ℕ, zero, suc, ◌*◌, ◌/◌, ◌≡◌, false, ℤ, pos, negsuc, neg_ℤ, nat_abs, ◌+ℤ◌, ◌-ℤ◌, ◌*ℤ◌, T, eqb}
use Rattle.std.proofs.Common.{suc-le-suc, zero-le, sym, ap, ap₂, ◌∙◌, subst}
use Rattle.std.proofs.Math.Nat.{mul-div_cancel_left}
use Rattle.std.proofs.Math.IntN.{+ℤ_invr, +ℤ_idr, +ℤ_idl, +ℤ_one, -ℤ_one, neg_ℤ-neg_ℤ, suc_ℤ-*ℤ, pred_ℤ-*ℤ, zero-*ℤ, *ℤ_comm, ℤ_ind}
use Rattle.std.specs.Int.Signed.{quot_z}
use Rattle.laws.specs.Numbers.{mul-neg, neg-quot, sums}

-- ---- a sum times a number

one_more : (m k : ℤ) → (m +ℤ pos 1) *ℤ k ≡ m *ℤ k +ℤ k
one_more m k = ap (λ (x : ℤ). x *ℤ k) (+ℤ_one m) ∙ suc_ℤ-*ℤ m k

one_less : (m k : ℤ) → (m +ℤ neg_ℤ (pos 1)) *ℤ k ≡ m *ℤ k +ℤ neg_ℤ k
one_less m k = ap (λ (x : ℤ). x *ℤ k) (-ℤ_one m) ∙ pred_ℤ-*ℤ m k

-- one more, or one less, in the first summand
moved : (a b z : ℤ) → (a +ℤ z) +ℤ b ≡ (a +ℤ b) +ℤ z
moved a b z = simp sums

pub sum_times : (a b c : ℤ) → (a +ℤ b) *ℤ c ≡ a *ℤ c +ℤ b *ℤ c
sum_times a b c =
    ℤ_ind (λ (a : ℤ). (a +ℤ b) *ℤ c ≡ a *ℤ c +ℤ b *ℤ c)
    (ap (λ (x : ℤ). x *ℤ c) (+ℤ_idl b) ∙ sym (ap (λ (x : ℤ). x +ℤ b *ℤ c) (zero-*ℤ c) ∙ +ℤ_idl (b *ℤ c)))
    (λ n e. up (pos n) (pos 1) c (one_more (pos n +ℤ b) c) (one_more (pos n) c) e)
    (λ n e. up (neg_ℤ (pos n)) (neg_ℤ (pos 1)) (neg_ℤ c) (one_less (neg_ℤ (pos n) +ℤ b) c) (one_less (neg_ℤ (pos n)) c) e)
    a
  where
    up : (m z d : ℤ) → ((m +ℤ b) +ℤ z) *ℤ c ≡ (m +ℤ b) *ℤ c +ℤ d → (m +ℤ z) *ℤ c ≡ m *ℤ c +ℤ d → (m +ℤ b) *ℤ c ≡ m *ℤ c +ℤ b *ℤ c → ((m +ℤ z) +ℤ b) *ℤ c ≡ (m +ℤ z) *ℤ c +ℤ b *ℤ c
    up m z d whole part e =
        ap (λ (x : ℤ). x *ℤ c) (moved m b z) ∙ whole ∙ ap (λ (x : ℤ). x +ℤ d) e ∙ moved (m *ℤ c) d (b *ℤ c) ∙ sym (ap (λ (x : ℤ). x +ℤ b *ℤ c) part)

pub times_sum : (c a b : ℤ) → c *ℤ (a +ℤ b) ≡ c *ℤ a +ℤ c *ℤ b
times_sum c a b = *ℤ_comm c (a +ℤ b) ∙ sum_times a b c ∙ ap₂ ◌+ℤ◌ (*ℤ_comm a c) (*ℤ_comm b c)

-- ---- the difference of two squares

pub squares : (a b : ℤ) → (a +ℤ b) *ℤ (b -ℤ a) ≡ b *ℤ b -ℤ a *ℤ a
squares a b =
    sum_times a b (b -ℤ a)
    ∙ ap₂ ◌+ℤ◌ (times_sum a b (neg_ℤ a)) (times_sum b b (neg_ℤ a))
    ∙ rw (mul-neg a a, mul-neg b a, *ℤ_comm b a)
    (apart (a *ℤ b) (b *ℤ b) (neg_ℤ (a *ℤ a)))
  where
    apart : (x y z : ℤ) → (x +ℤ z) +ℤ (y +ℤ neg_ℤ x) ≡ y +ℤ z
    apart x y z =
        let sorted : (x +ℤ z) +ℤ (y +ℤ neg_ℤ x) ≡ (y +ℤ z) +ℤ (x +ℤ neg_ℤ x) = simp sums in
        sorted ∙ ap (λ (w : ℤ). (y +ℤ z) +ℤ w) (+ℤ_invr x) ∙ +ℤ_idr (y +ℤ z)

-- ---- a product divided by a factor other than 0 leaves the other, whatever the signs

cancelled : (h r : ℕ) → suc h * r / suc h ≡ r
cancelled h r = mul-div_cancel_left r (suc-le-suc zero-le)

pub quot_times : (h r : ℤ) → eqb (nat_abs h) 0 ≡ false → quot_z (h *ℤ r) h ≡ r
quot_times (pos zero) r e = absurd (subst T e tt)
quot_times (pos (suc h)) (pos r) e = ap pos (cancelled h r)
quot_times (pos (suc h)) (negsuc r) e = neg-quot (pos (suc h * suc r)) (pos (suc h)) ∙ ap (λ (n : ℕ). neg_ℤ (pos n)) (cancelled h (suc r))
quot_times (negsuc h) (pos r) e = neg-quot (pos (suc h * r)) (negsuc h) ∙ neg_ℤ-neg_ℤ _ ∙ ap pos (cancelled h r)
quot_times (negsuc h) (negsuc r) e = ap (λ (n : ℕ). neg_ℤ (pos n)) (cancelled h (suc r))
