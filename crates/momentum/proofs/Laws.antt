-- The positive part of a flow is the greater of it and 0.
use Prim.Native.Nat.{zero, suc, zero-le, suc-le-suc}
use mathlib.Core.Path.{◌≡◌, refl}
use lib.Dec.{ltb, lt→ltb}
use lib.IntN.{ℤ, pos, negsuc}
use Rattle.std.specs.Int.{int_max}
use Rattle.rules.specs.Step.{forward, positive}
use Rattle.laws.specs.Tests.{true_of}

pub positive_max : (x : ℤ) → int_max x (pos 0) ≡ positive x
unfolding forward positive
positive_max (pos zero) = refl
positive_max (pos (suc n)) = rw (true_of (ltb 0 (suc n)) (lt→ltb 0 (suc n) (suc-le-suc zero-le)))
positive_max (negsuc n) = refl
