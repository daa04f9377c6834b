use Prim.Native.Nat.{◌-◌}
use native.Mathlib.Omega.{arith}
use Rattle.raster_writer.specs.Lines.{row_text}
use Rattle.raster_writer.proofs.Loops.{lay_none, lay_room, lay_more, lay_all, whole_length}
use Rattle.raster_writer.proofs.Rows.{rows_none, rows_more, rows_within}
use Rattle.raster_writer.proofs.lines.put_values.Goals as goal

pub loop-n-init : goal.loop-n-init
loop-n-init c = lay_none (rows_none c.args.card c.args.land.now)

pub put_row-end-requires : goal.put_row-end-requires
put_row-end-requires c = (record { checked = c.requires.0; row = omega (arith, c.loop-n-test.true) }, lay_room c.loop-n.invariant c.requires.1 (row_text c.args.card c.args.land.now (c.args.card.rows - 1 - c.loop-n.n) c.args.card.columns) (rows_within c.args.card c.args.land.now c.loop-n.n c.args.card.rows c.loop-n-test.true))

pub loop-n-preserved : goal.loop-n-preserved
loop-n-preserved c = lay_more c.loop-n.invariant c.requires.1 (row_text c.args.card c.args.land.now (c.args.card.rows - 1 - c.loop-n.n) c.args.card.columns) (rows_within c.args.card c.args.land.now c.loop-n.n c.args.card.rows c.loop-n-test.true) c.loop-n-test.true (rows_more c.args.card c.args.land.now c.loop-n.n) c.put_row-end.ensures

pub shape_of-out : goal.shape_of-out
shape_of-out c = whole_length (lay_all c.loop-n.invariant c.loop-n-test.false) c.requires.1

pub returns : goal.returns
returns c = lay_all c.loop-n.invariant c.loop-n-test.false
