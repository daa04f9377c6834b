-- `cell_size`: a value, and one byte behind it.
use mathlib.Core.Path.{◌≡◌, ap, ◌∙◌}
use native.Mathlib.Omega.{arith}
use lib.IntN.{ℤ}
use lib.ListN.{length}
use Rattle.rules.specs.Site.{read_ground}
use Rattle.rules.specs.Raster.{signed_metres}
use Rattle.raster_writer.proofs.Rows.{length_cell, place_long, cell_small, cell_read, cell_most}
use Rattle.raster_writer.proofs.sums.cell_size.Goals as goal

pub bounds-land-j : goal.bounds-land-j
bounds-land-j c = place_long c.args.card c.args.land.now c.requires

pub value_size-requires : goal.value_size-requires
value_size-requires c = rw (cell_read c.args.card c.args.land.now c.requires) (cell_small c.args.card c.args.land.now c.requires)

pub overflow_add-result : goal.overflow_add-result
overflow_add-result c = let v : c.value_size.result ≡ length (signed_metres (read_ground c.args.card c.args.land.now c.args.i c.args.j)) = c.value_size.ensures ∙ ap (λ (z : ℤ). length (signed_metres z)) (cell_read c.args.card c.args.land.now c.requires) in let all = length_cell c.args.card c.args.land.now c.args.i c.args.j in let most = cell_most c.args.card c.args.land.now c.requires in omega (arith, v, all, most)

pub returns : goal.returns
returns c = let v : c.value_size.result ≡ length (signed_metres (read_ground c.args.card c.args.land.now c.args.i c.args.j)) = c.value_size.ensures ∙ ap (λ (z : ℤ). length (signed_metres z)) (cell_read c.args.card c.args.land.now c.requires) in let all = length_cell c.args.card c.args.land.now c.args.i c.args.j in let most = cell_most c.args.card c.args.land.now c.requires in (omega (arith, v, all), omega (arith, v, all, most))
