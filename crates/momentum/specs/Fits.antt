-- What the functions of this crate require: each number around a face in its range.
use Rattle.std.specs.Prelude.{ℤ}
use Rattle.rules.specs.declared.Face.{Face}
use Rattle.laws.specs.Sizes.{Within}
use Rattle.face.specs.Ranges.{Height, Speed, Transfer}

-- a ground level: -50,000,000 to 50,000,000
abbrev pub Ground : ℤ → Type 0
Ground z = Within 50000000 z

pub record FaceFits (f : Face) : Type 0 where
  pub old_k : Height f.old_k
  pub old_l : Height f.old_l
  pub new_k : Height f.new_k
  pub new_l : Height f.new_l
  pub ground_k : Ground f.ground_k
  pub ground_l : Ground f.ground_l
  pub own : Transfer f.own
  pub ahead : Transfer f.ahead
  pub behind : Transfer f.behind
  pub above_k : Transfer f.above_k
  pub above_l : Transfer f.above_l
  pub below_k : Transfer f.below_k
  pub below_l : Transfer f.below_l
  pub u : Speed f.u
  pub u_ahead : Speed f.u_ahead
  pub u_behind : Speed f.u_behind
  pub u_above : Speed f.u_above
  pub u_below : Speed f.u_below

-- a flow over a dual edge, the sum of two transfers, and the velocity that it carries
pub record Flow (out v : ℤ) : Type 0 where
  pub flow : Within 100000000 out
  pub speed : Speed v
