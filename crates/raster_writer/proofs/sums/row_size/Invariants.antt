-- `row_size`: behind i turns the first i values are added up.
use Rattle.raster_writer.specs.Lines.{row_text}
use Rattle.raster_writer.proofs.Loops.{Summing}
use Rattle.raster_writer.proofs.sums.row_size.Given as goal

abbrev pub invariant-loop-i : goal.invariant-loop-i
invariant-loop-i l = Summing (row_text l.card l.land l.j) l.card.columns 11 l.size l.i
