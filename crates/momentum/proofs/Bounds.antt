-- How large the flows and what they carry are, by the ranges of what they are made of.
use Prim.Native.Nat.{ℕ, ◌*◌}
use native.Mathlib.Nat.{le_trans}
use lib.IntN.{ℤ}
use Rattle.rules.specs.declared.Face.{Face}
use Rattle.rules.specs.Step.{out_ahead, out_behind, out_above, out_below, positive, own_share, brought, carried}
use Rattle.laws.specs.Sizes.{Within, within-neg, within-add, within-sub, within-mul}
use Rattle.laws.specs.Outward.{forward_size}
use Rattle.face.proofs.Bounds.{height_within}
use Rattle.momentum.specs.Fits.{FaceFits}

pub positive-within : {N : ℕ} {x : ℤ} → Within N x → Within N (positive x)
unfolding positive
positive-within {x} r = record { size = le_trans (forward_size x) r.size }

pub brought-within : {N M : ℕ} {out v : ℤ} → Within N out → Within M v → Within (N * M) (brought out v)
unfolding brought
brought-within r s = within-mul (positive-within (within-neg r)) s

module _ {f : Face} (r : FaceFits f) where
  pub ahead_within : Within 100000000 (out_ahead f)
  unfolding out_ahead
  ahead_within = within-add r.own r.ahead

  pub behind_within : Within 100000000 (out_behind f)
  unfolding out_behind
  behind_within = within-neg (within-add r.own r.behind)

  pub above_within : Within 100000000 (out_above f)
  unfolding out_above
  above_within = within-add r.above_k r.above_l

  pub below_within : Within 100000000 (out_below f)
  unfolding out_below
  below_within = within-neg (within-add r.below_k r.below_l)

  pub share_within : Within 500000000 (own_share f)
  unfolding own_share
  share_within =
      within-sub (within-add (height_within r.old_k) (height_within r.old_l))
      (within-add (within-add (positive-within ahead_within) (positive-within behind_within)) (within-add (positive-within above_within) (positive-within below_within)))

  pub carried-within : Within 18000000000000000 (carried f)
  unfolding carried
  carried-within =
      within-add (within-mul share_within r.u)
      (within-add (within-add (brought-within ahead_within r.u_ahead) (brought-within behind_within r.u_behind))
      (within-add (brought-within above_within r.u_above) (brought-within below_within r.u_below)))
