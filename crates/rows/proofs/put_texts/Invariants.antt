-- `put_texts`: one turn puts one cell's text, of at most 9 bytes, behind those before it.
use Rattle.rules.specs.Play.{row_texts}
use Rattle.rows.proofs.Loops.{Printing}
use Rattle.rows.proofs.put_texts.Given as goal

abbrev pub invariant-loop-i : goal.invariant-loop-i
invariant-loop-i l = Printing (row_texts l.card l.state l.j) 9 l.initial.page l.i l.page
