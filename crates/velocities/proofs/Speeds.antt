-- A new velocity that a call returned as a 64-bit number: what the test of its range says, and that it fits a word where it passes.
use mathlib.Core.Path.{◌≡◌, ◌∙◌, ap, sym}
use mathlib.Core.Bool.{Bool, true}
use Prim.Native.Nat.{◌<◌, ◌^◌}
use lib.IntN.{ℤ, nat_abs}
use lib.Signed.{mag}
use lib.Dec.{leb→le}
use mir.Val.{SFits, to_z, of_z}
use mir.Syntax.{w32, w64}
use mir.Facts.{to_z-of_z}
use Rattle.rules.specs.Site.{speed_fits}
use Rattle.laws.specs.Tests.{to_T}
use Rattle.laws.specs.Sizes.{Within}
use Rattle.laws.specs.Signed.{narrow_fits, narrow_is}

module _ (z : ℤ) {x : ℤ} {fits : Bool} (ok : mag z < 2 ^ 63) (e : z ≡ x) (says : fits ≡ speed_fits (to_z w64 (of_z w64 z))) where
  pub speed_says : fits ≡ speed_fits x
  speed_says = says ∙ ap speed_fits (to_z-of_z {w = w64} (record { sfits = ok }) ∙ e)

  module _ (t : fits ≡ true) where
    small : Within 20000000 x
    small = record { size = leb→le (nat_abs x) 20000000 (to_T (sym speed_says ∙ t)) }

    pub speed_fits_word : SFits w32 (to_z w64 (of_z w64 z))
    speed_fits_word = narrow_fits z ok e small tt

    pub speed_word : to_z w32 (of_z w32 (to_z w64 (of_z w64 z))) ≡ x
    speed_word = narrow_is z ok e small tt
