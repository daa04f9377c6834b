-- `heights_fit`: one turn gathers one more cell's test, row by row.
use mathlib.Core.Bool.{Bool}
use mathlib.Core.List.{List}
use Prim.Native.Nat.{ℕ}
use lib.IntN.{ℤ, pos}
use lib.Signed.{le_z}
use Rattle.rules.specs.declared.Card.{Card}
use Rattle.rules.specs.Site.{read_state}
use Rattle.laws.specs.Gather.{RowsGathered, CellsGathered}
use Rattle.heights.proofs.tide.heights_fit.Given as goal

-- what each cell is asked
abbrev pub low : Card → List ℤ → ℕ → ℕ → Bool
low card tide i j = le_z ((read_state card tide).height i j) (pos 50000000)

abbrev pub invariant-loop-i : goal.invariant-loop-i
invariant-loop-i l = CellsGathered l.columns (low l.card l.tide) l.j l.fit l.i

abbrev pub invariant-loop-j : goal.invariant-loop-j
invariant-loop-j l = RowsGathered l.columns l.rows (low l.card l.tide) l.fit l.j
