-- `mark`: one turn marks one more row.
use Rattle.still.proofs.Rows.{MarkedTo}
use Rattle.still.proofs.mark.Given as goal

abbrev pub invariant-loop-j : goal.invariant-loop-j
invariant-loop-j l = MarkedTo l.card l.state l.initial.marks l.marks l.j
