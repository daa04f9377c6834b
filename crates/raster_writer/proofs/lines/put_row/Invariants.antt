-- `put_row`: behind i turns the first i values are laid.
use Rattle.raster_writer.specs.Lines.{row_text}
use Rattle.raster_writer.proofs.Loops.{Laying}
use Rattle.raster_writer.proofs.lines.put_row.Given as goal

abbrev pub invariant-loop-i : goal.invariant-loop-i
invariant-loop-i l = Laying (row_text l.card l.land l.j) l.card.columns l.at l.initial.out l.out l.end l.i
