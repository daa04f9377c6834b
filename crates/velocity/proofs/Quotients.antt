-- A quotient of two locals: what it requires, what was returned for it, and that of 0.
use Prim.Native.Nat.{◌<◌, ◌^◌}
use mathlib.Core.Path.{◌≡◌, sym, ◌∙◌}
use native.Mathlib.Omega.{arith}
use lib.Dec.{ltb→lt}
use lib.IntN.{ℤ, pos, nat_abs}
use lib.Signed.{quot_z}
use mir.Syntax.{w64}
use mir.Val.{of_z}
use mathlib.Core.Bool.{false}
use Rattle.rules.specs.Site.{is_zero}
use Rattle.laws.specs.Numbers.{zero-quot, not_0_is_above}
use Rattle.laws.specs.Exact.{Node, read, is_zero_lem, within, passed, result, quot}
use Rattle.laws.specs.Sizes.{Within}
use Rattle.velocity.specs.Fits.{InQuotient}

pub of_zero : (a : Node w64) (b : ℤ) → of_z w64 a.raw ≡ 0 → pos 0 ≡ quot_z a.z b
of_zero a b e = rw (is_zero_lem a e) (sym (zero-quot b))

held : (t : Node w64) → Within 9223372036854775807 (read t)
held t = record { size = omega (arith, (within t).size, ltb→lt t.N (2 ^ 63) t.room) }

pub may_divide : (a b : Node w64) → is_zero b.z ≡ false → InQuotient (read a) (read b)
may_divide a b e = record { top = held a; below = held b; divisor = passed (λ (y : ℤ). 0 < nat_abs y) b (not_0_is_above b.z e) }

abbrev pub divided : (a b : Node w64) {r : ℤ} → r ≡ quot_z (read a) (read b) → Node w64
divided a b e = result (e ∙ (quot a b).is) (record { size = (quot a b).small }) (quot a b).room
