-- `fill`: the rows from the north down, each at its place in the list.
use Prim.Native.Nat.{◌-◌}
use lib.ListN.{length}
use Rattle.raster_laws.specs.Filled.{Filling}
use Rattle.raster_reader.proofs.fills.fill.Given as goal

abbrev pub invariant-loop-n : goal.invariant-loop-n
invariant-loop-n l = Filling l.text (length l.initial.land) l.columns l.rows l.at (l.rows - l.n) l.p l.land
