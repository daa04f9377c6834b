-- `fill_row`: behind i turns the first i values are read.
use Rattle.raster_laws.specs.Filled.{RowReading}
use Rattle.raster_reader.proofs.fills.fill_row.Given as goal

abbrev pub invariant-loop-cell : goal.invariant-loop-cell
invariant-loop-cell l = RowReading l.text l.at l.initial.cell-items l.p l.cell-items l.cell-index
