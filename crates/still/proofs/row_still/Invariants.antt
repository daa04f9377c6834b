-- `row_still`: one turn gathers the test of one more face; the middle one is one of them.
use Rattle.rules.specs.Site.{read_state, is_zero}
use Rattle.laws.specs.Gather.{Gathered}
use Rattle.layout.specs.Ways.{speeds}
use Rattle.still.proofs.row_still.Given as goal

abbrev pub invariant-loop-i : goal.invariant-loop-i
invariant-loop-i l = Gathered l.wide (λ k. is_zero (speeds (read_state l.card l.state) l.way k l.j)) l.still l.i
