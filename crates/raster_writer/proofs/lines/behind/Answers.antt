-- `behind`: the last of a row, or another.
use Rattle.raster_writer.proofs.Laws.{last_in_row, inside_row}
use Rattle.raster_writer.proofs.lines.behind.Goals as goal

pub returns-then-i-columns : goal.returns-then-i-columns
returns-then-i-columns c = last_in_row c.args.columns c.args.i c.if-i-columns.true

pub returns : goal.returns
returns c = inside_row c.args.columns c.args.i c.if-i-columns.false
