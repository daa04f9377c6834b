-- `upwind`: each arm returns the height that the test picks.
use mathlib.Core.Path.{◌≡◌}
use mathlib.Core.Bool.{true, false}
use lib.IntN.{pos}
use lib.Signed.{lt_z}
use mir.Facts.{to_z-of_z}
use Rattle.face.proofs.upwind.Goals as goal

pub returns-then-u-lt0 : goal.returns-then-u-lt0
returns-then-u-lt0 c =
    let e : lt_z c.args.u (pos 0) ≡ true = rw (to_z-of_z c.ranges.u) at c.if-u-lt0.true in
    rw e (to_z-of_z c.ranges.hl)

pub returns-else-u-lt0 : goal.returns-else-u-lt0
returns-else-u-lt0 c =
    let e : lt_z c.args.u (pos 0) ≡ false = rw (to_z-of_z c.ranges.u) at c.if-u-lt0.false in
    rw e (to_z-of_z c.ranges.hk)
