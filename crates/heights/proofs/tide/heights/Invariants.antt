-- `heights`: one turn stores one more cell's new height at the front of the tide, and the transfers behind stay as they were.
use Rattle.rules.specs.Site.{read_state}
use Rattle.rules.specs.Step.{new_height}
use Rattle.laws.specs.Passes.{Rows, Cells}
use Rattle.heights.proofs.tide.heights.Given as goal

abbrev pub invariant-loop-i : goal.invariant-loop-i
invariant-loop-i l = Cells l.columns (new_height l.card (read_state l.card l.state)) l.rows l.j l.initial.tide l.tide l.i

abbrev pub invariant-loop-j : goal.invariant-loop-j
invariant-loop-j l = Rows l.columns (new_height l.card (read_state l.card l.state)) l.rows l.initial.tide l.tide l.j
