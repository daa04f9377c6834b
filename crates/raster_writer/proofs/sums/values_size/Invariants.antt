-- `values_size`: behind n turns the first n rows from the north are added up.
use Rattle.raster_writer.specs.Lines.{row_texts}
use Rattle.raster_writer.proofs.Loops.{Summing}
use Rattle.raster_writer.proofs.sums.values_size.Given as goal

abbrev pub invariant-loop-n : goal.invariant-loop-n
invariant-loop-n l = Summing (row_texts l.card l.land) l.card.rows 1408 l.size l.n
