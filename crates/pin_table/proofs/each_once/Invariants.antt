-- `each_once`: one turn marks the word before those that are marked, and ends where that pin stands among them.
use Prim.Native.Nat.{◌-◌}
use lib.ListN.{length}
use Rattle.pins_laws.specs.Marking.{Marking}
use Rattle.pin_table.proofs.each_once.Given as goal

abbrev pub invariant-loop-word : goal.invariant-loop-word
invariant-loop-word l = Marking l.table l.marks (length l.table - length l.yielded)
