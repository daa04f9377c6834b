-- A mean of velocities, each weighed by a flow, lies on the same side of a number as all those velocities whose weight is above 0: so does the carried part of a
-- face's new velocity. Said once for both sides, over the order.
use Rattle.std.specs.Prelude.{ℕ, zero, suc, ◌+◌, ◌*◌, ◌/◌, ◌<◌, ◌≡◌, ℤ, pos, negsuc, neg_ℤ, ◌+ℤ◌, ◌*ℤ◌}
use Rattle.std.proofs.Common.{suc-le-suc, zero-le, sym, mul-le-mul_left, mul_comm, le-div_iff_mul-le, leb→le, le→leb, ltb→lt, lt→ltb}
use Rattle.std.proofs.Math.Path.{subst}
use Rattle.std.proofs.Math.Nat.{div-le_of_le-mul}
use Rattle.std.proofs.Math.IntN.{neg_ℤ-neg_ℤ, zero-*ℤ}
use Rattle.std.specs.Int.Signed.{le_z, lt_z, quot_z}
use Rattle.std.proofs.Math.Dec.{T}
use Rattle.rules.specs.declared.Face.{Face}
use Rattle.rules.specs.Step.{forward, out_ahead, out_behind, out_above, out_below, positive, new_sum, own_share, flow_in, all_flow_in, brought, carried, carried_part}
use Rattle.laws.specs.Products.{sum_times}
use Rattle.laws.specs.Numbers.{le_z_refl, le_z_trans, le_z_signs, le_z-add, le_z-neg, mul-neg, neg-quot}

-- ---- the order under a weight, and under a quotient towards zero

times : (n : ℕ) (a b : ℤ) → T (le_z a b) → T (le_z (pos n *ℤ a) (pos n *ℤ b))
times n (pos a) (pos b) t = le→leb (n * a) (n * b) (mul-le-mul_left n (leb→le a b t))
times n (pos a) (negsuc b) t = absurd t
times n (negsuc a) (pos b) t = le_z_signs (n * suc a) (n * b)
times n (negsuc a) (negsuc b) t = le_z-neg (pos (n * suc b)) (pos (n * suc a)) (le→leb (n * suc b) (n * suc a) (mul-le-mul_left n (suc-le-suc (leb→le b a t))))

over : (n : ℕ) (m a : ℤ) → 0 < n → T (le_z (pos n *ℤ m) a) → T (le_z m (quot_z a (pos n)))
over n (pos m) (pos a) h t = le→leb m (a / n) ((le-div_iff_mul-le h).1 (rw (mul_comm m n) (leb→le (n * m) a t)))
over n (pos m) (negsuc a) h t = absurd t
over n (negsuc m) (pos a) h t = tt
over n (negsuc m) (negsuc a) h t =
    let k : T (le_z (pos (suc a)) (pos (n * suc m))) = subst (λ (x : ℤ). T (le_z (pos (suc a)) x)) (neg_ℤ-neg_ℤ (pos (n * suc m))) (le_z-neg (neg_ℤ (pos (n * suc m))) (negsuc a) t) in
    le_z-neg (pos (suc a / n)) (pos (suc m)) (le→leb (suc a / n) (suc m) (div-le_of_le-mul n (leb→le (suc a) (n * suc m) k)))

-- from above: the quotient favours no sign
under : (n : ℕ) (m a : ℤ) → 0 < n → T (le_z a (pos n *ℤ m)) → T (le_z (quot_z a (pos n)) m)
under n m a h t =
    let turned : T (le_z (pos n *ℤ neg_ℤ m) (neg_ℤ a)) = rw (mul-neg (pos n) m) (le_z-neg a (pos n *ℤ m) t) in
    let q = quot_z a (pos n) in
    let back : T (le_z (neg_ℤ (neg_ℤ q)) (neg_ℤ (neg_ℤ m))) = le_z-neg (neg_ℤ m) (neg_ℤ q) (subst (λ (x : ℤ). T (le_z (neg_ℤ m) x)) (neg-quot a (pos n)) (over n (neg_ℤ m) (neg_ℤ a) h turned)) in
    rw (neg_ℤ-neg_ℤ q, neg_ℤ-neg_ℤ m) at back

-- ---- a side: `R m v` says that v is on that side of m

pub record Side (R : ℤ → ℤ → Type 0) : Type 0 where
  pub same : (a : ℤ) → R a a
  pub through : (a b c : ℤ) → R a b → R b c → R a c
  pub add : (a b c d : ℤ) → R a b → R c d → R (a +ℤ c) (b +ℤ d)
  pub weigh : (n : ℕ) (a b : ℤ) → R a b → R (pos n *ℤ a) (pos n *ℤ b)
  pub divide : (n : ℕ) (m a : ℤ) → 0 < n → R (pos n *ℤ m) a → R m (quot_z a (pos n))

abbrev pub AtLeast : ℤ → ℤ → Type 0
AtLeast m v = T (le_z m v)

abbrev pub AtMost : ℤ → ℤ → Type 0
AtMost m v = T (le_z v m)

pub at_least : Side AtLeast
at_least = record { same = le_z_refl; through = le_z_trans; add = le_z-add; weigh = times; divide = over }

pub at_most : Side AtMost
at_most = record { same = le_z_refl; through = λ a b c p q. le_z_trans c b a q p; add = λ a b c d. le_z-add b a d c; weigh = λ n a b. times n b a; divide = under }

-- P of a neighbour's velocity, if its flow in is above 0
abbrev pub WhereBrought : (P : ℤ → Type 0) (out v : ℤ) → Type 0
WhereBrought P out v = T (lt_z (pos 0) (flow_in out)) → P v

module _ {R : ℤ → ℤ → Type 0} (𝓢 : Side R) (m : ℤ) where
  part : (n : ℕ) (v : ℤ) → (0 < n → R m v) → R (pos n *ℤ m) (pos n *ℤ v)
  part zero v h = rw (zero-*ℤ m, zero-*ℤ v) (𝓢.same (pos 0))
  part (suc n) v h = 𝓢.weigh (suc n) m v (h (suc-le-suc zero-le))

  two : (a b : ℕ) (x y : ℤ) → R (pos a *ℤ m) x → R (pos b *ℤ m) y → R (pos (a + b) *ℤ m) (x +ℤ y)
  two a b x y p q = rw (sum_times (pos a) (pos b) m) (𝓢.add (pos a *ℤ m) x (pos b *ℤ m) y p q)

  -- the mean of u, with the weight s, and of four others
  mean : (s : ℤ) (a b c d : ℕ) (u v w x y : ℤ) → T (le_z (pos 0) s) → T (lt_z (pos 0) (s +ℤ pos (a + b + (c + d))))
      → R m u → (0 < a → R m v) → (0 < b → R m w) → (0 < c → R m x) → (0 < d → R m y)
      → R m (quot_z (s *ℤ u +ℤ (pos a *ℤ v +ℤ pos b *ℤ w +ℤ (pos c *ℤ x +ℤ pos d *ℤ y))) (s +ℤ pos (a + b + (c + d))))
  mean (pos s) a b c d u v w x y l h p q r t z =
      𝓢.divide (s + (a + b + (c + d))) m _ (ltb→lt 0 (s + (a + b + (c + d))) h)
      (two s (a + b + (c + d)) _ _ (𝓢.weigh s m u p)
      (two (a + b) (c + d) _ _ (two a b _ _ (part a v q) (part b w r)) (two c d _ _ (part c x t) (part d y z))))
  mean (negsuc s) a b c d u v w x y l h p q r t z = absurd l

  -- ---- of a face: its own velocity counts, and that of a neighbour which brought water in

  counts : (out v : ℤ) → WhereBrought (R m) out v → 0 < forward (neg_ℤ out) → R m v
  unfolding positive
  counts out v h l = h (lt→ltb 0 (forward (neg_ℤ out)) l)

  pub carried_side : (f : Face) → T (le_z (pos 0) (own_share f)) → new_sum f ≡ own_share f +ℤ all_flow_in f → T (lt_z (pos 0) (new_sum f))
      → R m f.u → WhereBrought (R m) (out_ahead f) f.u_ahead → WhereBrought (R m) (out_behind f) f.u_behind → WhereBrought (R m) (out_above f) f.u_above → WhereBrought (R m) (out_below f) f.u_below
      → R m (carried_part f)
  unfolding carried brought positive
  carried_side f l e h p q r t z =
      subst (λ (x : ℤ). R m (quot_z (carried f) x)) (sym e)
      (mean (own_share f) (forward (neg_ℤ (out_ahead f))) (forward (neg_ℤ (out_behind f))) (forward (neg_ℤ (out_above f))) (forward (neg_ℤ (out_below f)))
      f.u f.u_ahead f.u_behind f.u_above f.u_below l (subst (λ (x : ℤ). T (lt_z (pos 0) x)) e h)
      p (counts (out_ahead f) f.u_ahead q) (counts (out_behind f) f.u_behind r) (counts (out_above f) f.u_above t) (counts (out_below f) f.u_below z))
