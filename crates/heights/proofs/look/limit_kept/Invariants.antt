-- `limit_kept`: every cell before this one kept the limit, each of a still row does, and one cell that breaks it decides for all.
use Rattle.rules.specs.Site.{read_state}
use Rattle.rules.specs.Step.{within_limit}
use Rattle.laws.specs.Looks.{RowsPass, CellsPass}
use Rattle.heights.proofs.look.limit_kept.Given as goal

abbrev pub invariant-loop-i : goal.invariant-loop-i
invariant-loop-i l = CellsPass l.columns l.rows (within_limit l.card (read_state l.card l.state)) l.j l.kept l.i

abbrev pub invariant-look : goal.invariant-look
invariant-look l = RowsPass l.columns l.rows (within_limit l.card (read_state l.card l.state)) l.kept l.j
