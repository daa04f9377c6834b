-- Of document 02's [1], staff readings: how near a height is to its product, and that a greater value never gives a smaller height.
use Rattle.std.specs.Prelude.{◌+◌, ◌*◌, ◌≤◌, ◌<◌, ◌≡◌, T, ℤ, nat_abs}
use Rattle.std.specs.Int.Signed.{le_z}
use lib.Ieee.{Float, binary64, le, of_bits}
use Rattle.std.specs.Float.Ieee.Positive.{num, den}
use Rattle.rules.specs.declared.Staff.{Staff}
use Rattle.rules.specs.Site.{height_fits}
use Rattle.rules.specs.Search.{is_finite}

-- ---- How near. A product is the fraction num / den of whole numbers (the kit's lib.Ieee.Positive)

pub record Near (p : Float) (height : ℤ) : Type 0 where
  -- the product is finite and not below 0, and so it is that fraction
  pub finite : T (is_finite p)
  pub not_below_0 : T (le (of_bits binary64 0) p)
  -- the height is above it less a half, never below it by that
  pub above_half_below : 2 * num p < (2 * nat_abs height + 1) * den p
  -- and at most a half above it
  pub half_above_at_most : 2 * nat_abs height * den p ≤ 2 * num p + den p
  -- and is one that every other call takes
  pub fits : T (height_fits height)

-- ---- In order. Of two values of one unit that are finite and not below 0, the first no greater than the second, which is read: the first is read too, and its height
-- is no greater

pub record NoGreater (a b : Staff) : Type 0 where
  pub number : a.number ≡ 0
  pub read : a.read ≡ 1
  pub height : T (le_z a.height b.height)
