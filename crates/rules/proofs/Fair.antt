-- Rounding favours no side, of one face: a face turned end for end has the transfer and the new velocity of the first, negated; a face whose sides
-- change places has the same. Document 01's first slip, a negative product divided with floor, is refused here. Demand 3 rests on this.
use Prim.Native.Nat.{ℕ, zero, suc, ◌*◌, ◌/◌}
use mathlib.Core.Path.{◌≡◌, refl, sym, ap}
use mathlib.Core.Bool.{Bool, true, false, cond, ◌||◌, or_comm}
use lib.IntN.{ℤ, pos, negsuc, neg_ℤ, nat_abs, ◌-ℤ◌, ◌*ℤ◌, neg_ℤ-neg_ℤ, neg_ℤ-+ℤ, +ℤ_comm}
use Rattle.rules.specs.declared.Face.{Face}
use Rattle.rules.specs.Site.{is_zero}
use Rattle.rules.specs.Step.{Rule, transfer, out_ahead, out_behind, out_above, out_below, positive, new_sum, own_share, brought, carried, carried_part, rise, slope, bank_k, bank_l, dry_bank, new_velocity_by, new_velocity}
use Rattle.rules.proofs.Signs.{mul-neg, neg-quot, sums, turned_difference}

-- a face turned end for end: K and L change places, ahead and behind too, and what is directed is negated
unfoldable pub end_for_end : Face → Face
end_for_end f = record {
  old_k = f.old_l;
  old_l = f.old_k;
  new_k = f.new_l;
  new_l = f.new_k;
  ground_k = f.ground_l;
  ground_l = f.ground_k;
  own = neg_ℤ f.own;
  ahead = neg_ℤ f.behind;
  behind = neg_ℤ f.ahead;
  above_k = f.above_l;
  above_l = f.above_k;
  below_k = f.below_l;
  below_l = f.below_k;
  u = neg_ℤ f.u;
  u_ahead = neg_ℤ f.u_behind;
  u_behind = neg_ℤ f.u_ahead;
  u_above = neg_ℤ f.u_above;
  u_below = neg_ℤ f.u_below;
}

-- a face whose sides change places
unfoldable pub side_for_side : Face → Face
side_for_side f = record {
  old_k = f.old_k;
  old_l = f.old_l;
  new_k = f.new_k;
  new_l = f.new_l;
  ground_k = f.ground_k;
  ground_l = f.ground_l;
  own = f.own;
  ahead = f.ahead;
  behind = f.behind;
  above_k = neg_ℤ f.below_k;
  above_l = neg_ℤ f.below_l;
  below_k = neg_ℤ f.above_k;
  below_l = neg_ℤ f.above_l;
  u = f.u;
  u_ahead = f.u_ahead;
  u_behind = f.u_behind;
  u_above = f.u_below;
  u_below = f.u_above;
}

-- ---- transfer

pub transfer-turned : (dt d : ℕ) (h_k h_l u : ℤ) → transfer dt d h_l h_k (neg_ℤ u) ≡ neg_ℤ (transfer dt d h_k h_l u)
unfolding transfer
transfer-turned dt d h_k h_l (pos zero) = refl
transfer-turned dt d h_k h_l (pos (suc n)) = refl
transfer-turned dt d h_k h_l (negsuc n) = sym (neg_ℤ-neg_ℤ (pos (nat_abs h_l * suc n * dt / (1000 * d))))

module _ (f : Face) where
  -- ---- the flows

  ahead_by_ends : out_ahead (end_for_end f) ≡ out_behind f
  unfolding out_ahead out_behind end_for_end
  ahead_by_ends = sym (neg_ℤ-+ℤ f.own f.behind)

  behind_by_ends : out_behind (end_for_end f) ≡ out_ahead f
  unfolding out_ahead out_behind end_for_end
  behind_by_ends = simp (neg_ℤ-+ℤ, neg_ℤ-neg_ℤ)

  above_by_ends : out_above (end_for_end f) ≡ out_above f
  unfolding out_above end_for_end
  above_by_ends = +ℤ_comm f.above_l f.above_k

  below_by_ends : out_below (end_for_end f) ≡ out_below f
  unfolding out_below end_for_end
  below_by_ends = ap neg_ℤ (+ℤ_comm f.below_l f.below_k)

  above_by_sides : out_above (side_for_side f) ≡ out_below f
  unfolding out_above out_below side_for_side
  above_by_sides = sym (neg_ℤ-+ℤ f.below_k f.below_l)

  below_by_sides : out_below (side_for_side f) ≡ out_above f
  unfolding out_above out_below side_for_side
  below_by_sides = simp (neg_ℤ-+ℤ, neg_ℤ-neg_ℤ)

  -- ---- own share

  share_by_ends : own_share (end_for_end f) ≡ own_share f
  unfolding own_share end_for_end
  share_by_ends =
      rw (ahead_by_ends, behind_by_ends, above_by_ends, below_by_ends)
      (rw (+ℤ_comm (positive (out_behind f)) (positive (out_ahead f)), +ℤ_comm f.old_l f.old_k))

  share_by_sides : own_share (side_for_side f) ≡ own_share f
  unfolding own_share side_for_side out_ahead out_behind
  share_by_sides = rw (above_by_sides, below_by_sides, +ℤ_comm (positive (out_below f)) (positive (out_above f)))

  -- ---- carried momentum

  carried_by_ends : carried (end_for_end f) ≡ neg_ℤ (carried f)
  unfolding carried end_for_end brought
  carried_by_ends =
      rw (ahead_by_ends, behind_by_ends, above_by_ends, below_by_ends, share_by_ends)
      (simp sums)

  carried_by_sides : carried (side_for_side f) ≡ carried f
  unfolding carried side_for_side out_ahead out_behind
  carried_by_sides =
      rw (above_by_sides, below_by_sides, share_by_sides)
      (rw (+ℤ_comm (brought (out_below f) f.u_below) (brought (out_above f) f.u_above)))

  -- ---- slope, dry banks and new velocity

  rise_by_ends : rise (end_for_end f) ≡ neg_ℤ (rise f)
  unfolding rise end_for_end
  rise_by_ends = rw turned_difference

  slope_by_ends : (dt d : ℕ) → slope dt d (rise (end_for_end f)) ≡ neg_ℤ (slope dt d (rise f))
  unfolding slope
  slope_by_ends dt d = rw (rise_by_ends, mul-neg (pos (9806650 * dt)) (rise f)) (neg-quot (pos (9806650 * dt) *ℤ rise f) (pos (1000 * d)))

  bank_by_ends : dry_bank (end_for_end f) ≡ dry_bank f
  unfolding dry_bank end_for_end
  bank_by_ends = or_comm (bank_l f) (bank_k f)

  -- a difference whose first part is negated, less the negated second
  neg_difference : (none : Bool) (q q' s : ℤ) → q' ≡ neg_ℤ q → cond none (pos 0) (q' -ℤ neg_ℤ s) ≡ neg_ℤ (cond none (pos 0) (q -ℤ s))
  neg_difference true q q' s e = refl
  neg_difference false q q' s e = rw e (sym (neg_ℤ-+ℤ q (neg_ℤ s)))

  velocity_by_ends : (dt d : ℕ) → new_velocity dt d (end_for_end f) ≡ neg_ℤ (new_velocity dt d f)
  unfolding new_velocity_by end_for_end
  velocity_by_ends dt d =
      rw (carried_by_ends, slope_by_ends, bank_by_ends, +ℤ_comm f.new_l f.new_k)
      (neg_difference (is_zero (new_sum f) || dry_bank f) (carried_part f) _ (slope dt d (rise f)) (neg-quot (carried f) (new_sum f)))

  velocity_by_sides : (dt d : ℕ) → new_velocity dt d (side_for_side f) ≡ new_velocity dt d f
  unfolding new_velocity_by side_for_side rise dry_bank
  velocity_by_sides dt d = rw carried_by_sides

-- what demand 3 asks of a rule for new velocities; document 01's, with [2]'s banks, has it
pub record Fair (rule : Rule) : Type 0 where
  pub by_ends : (f : Face) (dt d : ℕ) → rule dt d (end_for_end f) ≡ neg_ℤ (rule dt d f)
  pub by_sides : (f : Face) (dt d : ℕ) → rule dt d (side_for_side f) ≡ rule dt d f

pub fair : Fair new_velocity
fair = record { by_ends = velocity_by_ends; by_sides = velocity_by_sides }
