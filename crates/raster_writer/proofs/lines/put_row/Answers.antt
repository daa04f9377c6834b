use Rattle.raster_writer.specs.Lines.{cell_text}
use Rattle.raster_writer.proofs.Loops.{lay_none, lay_room, lay_more, lay_all, whole_length}
use Rattle.raster_writer.proofs.Rows.{row_none, row_more, row_within}
use Rattle.raster_writer.proofs.lines.put_row.Goals as goal

pub loop-i-init : goal.loop-i-init
loop-i-init c = lay_none (row_none c.args.card c.args.land.now c.args.j)

pub put_cell-end-requires : goal.put_cell-end-requires
put_cell-end-requires c = (record { checked = c.requires.0.checked; row = c.requires.0.row; column = c.loop-i-test.true }, lay_room c.loop-i.invariant c.requires.1 (cell_text c.args.card c.args.land.now c.loop-i.i c.args.j) (row_within c.args.card c.args.land.now c.args.j c.loop-i.i c.args.card.columns c.loop-i-test.true))

pub loop-i-preserved : goal.loop-i-preserved
loop-i-preserved c = lay_more c.loop-i.invariant c.requires.1 (cell_text c.args.card c.args.land.now c.loop-i.i c.args.j) (row_within c.args.card c.args.land.now c.args.j c.loop-i.i c.args.card.columns c.loop-i-test.true) c.loop-i-test.true (row_more c.args.card c.args.land.now c.args.j c.loop-i.i) c.put_cell-end.ensures

pub shape_of-out : goal.shape_of-out
shape_of-out c = whole_length (lay_all c.loop-i.invariant c.loop-i-test.false) c.requires.1

pub returns : goal.returns
returns c = lay_all c.loop-i.invariant c.loop-i-test.false
