-- `over_faces`: one turn stores what crosses one more face, row by row, until the part is the whole grid.
use Rattle.rules.specs.Site.{read_state}
use Rattle.laws.specs.Passes.{Rows, Cells}
use Rattle.layout.specs.Ways.{transfers}
use Rattle.transfers.proofs.over_faces.Given as goal

abbrev pub invariant-loop-i : goal.invariant-loop-i
invariant-loop-i l = Cells l.wide (transfers l.card (read_state l.card l.state) l.way) l.high l.j l.initial.part l.part l.i

abbrev pub invariant-loop-j : goal.invariant-loop-j
invariant-loop-j l = Rows l.wide (transfers l.card (read_state l.card l.state) l.way) l.high l.initial.part l.part l.j
