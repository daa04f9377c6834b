-- `put_rows`: one turn puts one row's line, of at most 289 bytes, behind those before it.
use Rattle.rules.specs.Play.{row_lines}
use Rattle.rows.proofs.Loops.{Printing}
use Rattle.rows.proofs.put_rows.Given as goal

abbrev pub invariant-loop-j : goal.invariant-loop-j
invariant-loop-j l = Printing (row_lines l.card l.state) 289 l.initial.page l.j l.page
