-- What a quotient requires, and what a slope and a new velocity do: the numbers around the face, the time step and the side in their ranges.
use Rattle.std.specs.Prelude.{ℕ, ◌<◌, ◌≡◌, false, ℤ, pos, nat_abs}
use Rattle.rules.specs.declared.Face.{Face}
use Rattle.rules.specs.Site.{is_zero}
use Rattle.rules.specs.Step.{new_sum, carried}
use Rattle.laws.specs.Sizes.{Within}
use Rattle.face.specs.Ranges.{Time, Side}
use Rattle.momentum.specs.Fits.{FaceFits}

-- two signed 64-bit numbers, neither the least one, and a divisor other than 0: the quotient is such a number too
pub record InQuotient (a b : ℤ) : Type 0 where
  pub top : Within 9223372036854775807 a
  pub below : Within 9223372036854775807 b
  pub divisor : 0 < nat_abs b

-- a face with water on it
pub record WetFace (f : Face) : Type 0 where
  pub face : FaceFits f
  pub wet : is_zero (new_sum f) ≡ false

-- a rise, the time step and the side
pub record InSlope (rise : ℤ) (dt d : ℕ) : Type 0 where
  pub small : Within 200000000 rise
  pub time : Time dt
  pub side : Side d

pub record InVelocity (f : Face) (rise : ℤ) (dt d : ℕ) : Type 0 where
  pub wet_face : WetFace f
  pub slope : InSlope rise dt d

-- a face that carries nothing
pub record InStillVelocity (f : Face) (dt d : ℕ) : Type 0 where
  pub face : FaceFits f
  pub time : Time dt
  pub side : Side d
  pub nothing : carried f ≡ pos 0
