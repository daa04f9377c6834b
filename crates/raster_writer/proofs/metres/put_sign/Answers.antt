-- `put_sign`: one byte, or none.
use mathlib.Core.Path.{sym, ap}
use native.Mathlib.Omega.{arith}
use lib.ListN.{length}
use mir.Facts.{to_z-of_z}
use Rattle.print.proofs.Laws.{appended_same, appended_none}
use Rattle.raster_writer.proofs.Laws.{one_byte, minus_below, minus_not}
use Rattle.raster_writer.proofs.metres.put_sign.Goals as goal

pub returns-then-z-lt0 : goal.returns-then-z-lt0
returns-then-z-lt0 c = appended_same (sym (minus_below c.args.z (rw (to_z-of_z c.ranges.z) at c.if-z-lt0.true))) (one_byte c.args.out.now c.args.at 45 (omega (arith, c.requires, ap length (minus_below c.args.z (rw (to_z-of_z c.ranges.z) at c.if-z-lt0.true)))))

pub returns : goal.returns
returns c = appended_same (sym (minus_not c.args.z (rw (to_z-of_z c.ranges.z) at c.if-z-lt0.false))) appended_none
