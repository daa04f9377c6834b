-- How large a height is, and a choice of two numbers.
use Prim.Native.Nat.{ℕ}
use mathlib.Core.Bool.{Bool, true, false, cond}
use lib.IntN.{ℤ}
use Rattle.laws.specs.Sizes.{Within, within_order}
use Rattle.face.specs.Ranges.{Height}

pub height_within : {h : ℤ} → Height h → Within 50000000 h
height_within {h} r = within_order h r.low r.high

pub either_within : {N : ℕ} (b : Bool) {x y : ℤ} → Within N x → Within N y → Within N (cond b x y)
either_within true r s = r
either_within false r s = s
