-- `undo`: the last pump that is left, at each turn.
use Rattle.pumps.proofs.Undoing.{Undoing}
use Rattle.pumps.proofs.undo.Given as goal

abbrev pub invariant-loop-k : goal.invariant-loop-k
invariant-loop-k l = Undoing l.initial.state l.pumps l.found l.count l.state l.k
