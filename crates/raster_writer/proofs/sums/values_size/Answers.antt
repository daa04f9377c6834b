use Prim.Native.Nat.{◌+◌}
use mathlib.Core.Path.{sym, ap, ◌∙◌}
use Prim.Native.Nat.{ℕ}
use lib.ListN.{length}
use native.Mathlib.Omega.{arith}
use Rattle.laws.specs.Facts.{card_facts}
use Rattle.raster_writer.specs.Lines.{row_texts}
use Rattle.raster_writer.proofs.Loops.{sum_none, sum_more, sum_most, sum_all}
use Rattle.raster_writer.proofs.Rows.{rows_none, length_rows}
use Rattle.raster_writer.proofs.sums.values_size.Goals as goal

pub loop-n-init : goal.loop-n-init
loop-n-init c = sum_none (rows_none c.args.card c.args.land.now)

pub loop-n-preserved : goal.loop-n-preserved
loop-n-preserved c = sum_more c.loop-n.invariant c.loop-n-test.true (length_rows c.args.card c.args.land.now c.loop-n.n ∙ ap (λ (k : ℕ). length (row_texts c.args.card c.args.land.now c.loop-n.n) + k) (sym c.row_size-size.ensures.0)) c.row_size-size.ensures.1

pub returns : goal.returns
returns c = (sum_all c.loop-n.invariant c.loop-n-test.false, omega (arith, sum_most c.loop-n.invariant, (card_facts c.args.card c.requires.card).rows_high))
