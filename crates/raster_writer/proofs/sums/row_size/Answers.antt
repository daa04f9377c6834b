use Prim.Native.Nat.{◌+◌}
use mathlib.Core.Path.{sym, ap, ◌∙◌}
use Prim.Native.Nat.{ℕ}
use lib.ListN.{length}
use native.Mathlib.Omega.{arith}
use Rattle.laws.specs.Facts.{card_facts}
use Rattle.raster_writer.specs.Lines.{row_text}
use Rattle.raster_writer.proofs.Loops.{sum_none, sum_more, sum_most, sum_all}
use Rattle.raster_writer.proofs.Rows.{row_none, length_row}
use Rattle.raster_writer.proofs.sums.row_size.Goals as goal

pub loop-i-init : goal.loop-i-init
loop-i-init c = sum_none (row_none c.args.card c.args.land.now c.args.j)

pub cell_size-size-requires : goal.cell_size-size-requires
cell_size-size-requires c = record { checked = c.requires.checked; row = c.requires.row; column = c.loop-i-test.true }

pub loop-i-preserved : goal.loop-i-preserved
loop-i-preserved c = sum_more c.loop-i.invariant c.loop-i-test.true (length_row c.args.card c.args.land.now c.args.j c.loop-i.i ∙ ap (λ (k : ℕ). length (row_text c.args.card c.args.land.now c.args.j c.loop-i.i) + k) (sym c.cell_size-size.ensures.0)) c.cell_size-size.ensures.1

pub returns : goal.returns
returns c = (sum_all c.loop-i.invariant c.loop-i-test.false, omega (arith, sum_most c.loop-i.invariant, (card_facts c.args.card c.requires.checked.card).columns_high))
