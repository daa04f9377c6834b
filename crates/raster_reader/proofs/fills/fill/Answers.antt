use mathlib.Core.Path.{refl}
use Rattle.raster_laws.specs.Filled.{fill_none, row_readable, row_filled}
use Rattle.raster_reader.proofs.fills.fill.Goals as goal

pub loop-n-init : goal.loop-n-init
loop-n-init c = fill_none c.requires refl

pub fill_row-p-requires : goal.fill_row-p-requires
fill_row-p-requires c = row_readable c.requires c.loop-n.invariant c.loop-n-test.true c.row_start-start.result c.row_start-start.ensures.1

pub loop-n-preserved : goal.loop-n-preserved
loop-n-preserved c = row_filled c.requires c.loop-n.invariant c.loop-n-test.true c.row_start-start.result c.row_start-start.ensures.1 c.row_start-start.ensures.0 c.fill_row-p.ensures.left c.fill_row-p.ensures.row

pub shape_of-land : goal.shape_of-land
shape_of-land c = c.loop-n.invariant.long
