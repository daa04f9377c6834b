-- `put_values`: behind n turns the first n rows from the north are laid.
use Rattle.raster_writer.specs.Lines.{row_texts}
use Rattle.raster_writer.proofs.Loops.{Laying}
use Rattle.raster_writer.proofs.lines.put_values.Given as goal

abbrev pub invariant-loop-n : goal.invariant-loop-n
invariant-loop-n l = Laying (row_texts l.card l.land) l.card.rows l.at l.initial.out l.out l.end l.n
