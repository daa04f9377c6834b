-- An own share loses no more than leaves the face's two cells: where neither cell lets out more than it holds, no own share is negative. A definition that takes
-- a flow off twice is refused here. Document 02's [7] rests on this.
use Prim.Native.Nat.{ℕ, ◌+◌, ◌-◌, ◌≤◌, zero-le}
use mathlib.Core.Path.{◌≡◌, subst}
use native.Mathlib.Omega.{arith}
use lib.IntN.{ℤ, pos, negsuc, nat_abs, ◌+ℤ◌, ◌-ℤ◌, +ℤ-neg_ℤ_cancel}
use lib.Signed.{le_z}
use lib.Dec.{T, le→leb}
use Rattle.rules.specs.declared.Face.{Face}
use Rattle.rules.specs.Step.{forward, backward, out_ahead, out_behind, out_above, out_below, positive, own_share}
use Rattle.rules.proofs.Signs.{forward-neg, forward-sum, backward-sum}

-- two heights less what is lost, if no more is lost than they hold
left_over : (h_k h_l : ℤ) (lost : ℕ) → T (le_z (pos 0) h_k) → T (le_z (pos 0) h_l) → lost ≤ nat_abs h_k + nat_abs h_l → T (le_z (pos 0) (h_k +ℤ h_l -ℤ pos lost))
left_over (pos k) (pos l) lost p q h =
    let e : (k + l - lost) + lost ≡ k + l = omega arith in
    subst (λ (m : ℕ). T (le_z (pos 0) (pos m -ℤ pos lost))) e (rw (+ℤ-neg_ℤ_cancel (pos (k + l - lost)) (pos lost)) (le→leb 0 (k + l - lost) zero-le))
left_over (pos k) (negsuc l) lost p q h = absurd q
left_over (negsuc k) h_l lost p q h = absurd p

module _ (f : Face) where
  -- what leaves K, and what leaves L, over the four faces of each
  abbrev leaves_k : ℕ
  leaves_k = backward f.behind + forward f.own + backward f.below_k + forward f.above_k

  abbrev leaves_l : ℕ
  leaves_l = backward f.own + forward f.ahead + backward f.below_l + forward f.above_l

  -- the flows out of the face's cell, each over one of its dual edges
  ahead : forward (out_ahead f) ≤ forward f.own + forward f.ahead
  unfolding out_ahead
  ahead = forward-sum f.own f.ahead

  behind : forward (out_behind f) ≤ backward f.own + backward f.behind
  unfolding out_behind
  behind = rw (forward-neg (f.own +ℤ f.behind)) (backward-sum f.own f.behind)

  above : forward (out_above f) ≤ forward f.above_k + forward f.above_l
  unfolding out_above
  above = forward-sum f.above_k f.above_l

  below : forward (out_below f) ≤ backward f.below_k + backward f.below_l
  unfolding out_below
  below = rw (forward-neg (f.below_k +ℤ f.below_l)) (backward-sum f.below_k f.below_l)

  pub share_low : T (le_z (pos 0) f.old_k) → T (le_z (pos 0) f.old_l) → leaves_k ≤ nat_abs f.old_k → leaves_l ≤ nat_abs f.old_l → T (le_z (pos 0) (own_share f))
  unfolding own_share positive
  share_low low_k low_l out_k out_l =
      left_over f.old_k f.old_l (forward (out_ahead f) + forward (out_behind f) + (forward (out_above f) + forward (out_below f))) low_k low_l
      (omega (arith, ahead, behind, above, below, out_k, out_l))
