-- `put_cell`: a value, and what stands behind it.
use Prim.Native.Nat.{ℕ}
use mathlib.Core.Path.{refl, ap}
use mathlib.Core.List.{[], ◌∷◌, ◌++◌}
use native.Mathlib.Omega.{arith}
use Rattle.rules.specs.Site.{read_ground}
use Rattle.rules.specs.Raster.{signed_metres}
use Rattle.print.proofs.Laws.{appended_same, appended_length}
use Rattle.raster_writer.specs.Lines.{cell_text}
use Rattle.raster_writer.proofs.Laws.{next_byte}
use Rattle.raster_writer.proofs.Rows.{length_cell, place_long, cell_small, cell_read}
use Rattle.raster_writer.proofs.lines.put_cell.Goals as goal

pub bounds-land-j : goal.bounds-land-j
bounds-land-j c = place_long c.args.card c.args.land.now c.requires.0

pub put_value-end-requires : goal.put_value-end-requires
put_value-end-requires c = rw (cell_read c.args.card c.args.land.now c.requires.0) (cell_small c.args.card c.args.land.now c.requires.0, omega (arith, c.requires.1, length_cell c.args.card c.args.land.now c.args.i c.args.j))

pub bounds-out-end : goal.bounds-out-end
bounds-out-end c = let p = appended_same (ap signed_metres (cell_read c.args.card c.args.land.now c.requires.0)) c.put_value-end.ensures in let long = c.requires.1 in let all = length_cell c.args.card c.args.land.now c.args.i c.args.j in omega (arith, p.stop, long, all, appended_length p (omega (arith, p.stop, long, all)))

pub overflow_add-result : goal.overflow_add-result
overflow_add-result c = let p = appended_same (ap signed_metres (cell_read c.args.card c.args.land.now c.requires.0)) c.put_value-end.ensures in let long = c.requires.1 in let all = length_cell c.args.card c.args.land.now c.args.i c.args.j in omega (arith, p.stop, long, all)

pub returns : goal.returns
unfolding cell_text read_ground
returns c = let p = appended_same (ap signed_metres (cell_read c.args.card c.args.land.now c.requires.0)) c.put_value-end.ensures in let long = c.requires.1 in let all = length_cell c.args.card c.args.land.now c.args.i c.args.j in appended_same (ap (λ (k : ℕ). signed_metres (read_ground c.args.card c.args.land.now c.args.i c.args.j) ++ (k ∷ [])) c.behind.ensures) (next_byte c.put_value-end.result c.behind.result p refl (omega (arith, p.stop, long, all)))
