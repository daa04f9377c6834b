-- `cell_place`: the row is below `rows` and the column below `columns`, so that the place is below 128 · 128.
use mathlib.Core.Path.{◌≡◌}
use native.Mathlib.Omega.{arith}
use Prim.Native.Nat.{◌<◌, ◌*◌, ◌+◌}
use mir.Facts.{to_z-of_z}
use Rattle.laws.specs.Facts.{card_facts}
use Rattle.laws.specs.Along.{along_low, along_high, reach_high}
use Rattle.chamber.specs.OnSite.{cell_place}
use Rattle.chamber.proofs.Cells.{place_below}
use Rattle.chamber.proofs.cell_place.Goals as goal

pub overflow_cast-y : goal.overflow_cast-y
overflow_cast-y c =
    let card = c.args.card in
    let f = card_facts card c.requires.card in
    rw (to_z-of_z c.ranges.y) (along_low (card.rows * card.dy) c.args.y c.requires.y_fits, omega (arith, along_high (card.rows * card.dy) c.args.y c.requires.y_fits, reach_high f.rows_high f.dy_high))

pub cell_along-row-requires : goal.cell_along-row-requires
cell_along-row-requires c = let f = card_facts _ c.requires.card in (omega arith, omega arith)

pub overflow_cast-x : goal.overflow_cast-x
overflow_cast-x c =
    let card = c.args.card in
    let f = card_facts card c.requires.card in
    rw (to_z-of_z c.ranges.x) (along_low (card.columns * card.dx) c.args.x c.requires.x_fits, omega (arith, along_high (card.columns * card.dx) c.args.x c.requires.x_fits, reach_high f.columns_high f.dx_high))

pub cell_along-column-requires : goal.cell_along-column-requires
cell_along-column-requires c = let f = card_facts _ c.requires.card in (omega arith, omega arith)

pub overflow_mul-result : goal.overflow_mul-result
overflow_mul-result c =
    let is : c.cell_along-row.result * c.args.card.columns + c.cell_along-column.result ≡ cell_place c.args.card c.args.x c.args.y = simp (c.cell_along-row.ensures, c.cell_along-column.ensures, to_z-of_z c.ranges.y, to_z-of_z c.ranges.x) in
    let small : c.cell_along-row.result * c.args.card.columns + c.cell_along-column.result < 16384 = let f = card_facts c.args.card c.requires.card in
    let m = f.cells_high in
    rw is (omega (arith, place_below c.args.card c.requires.card c.args.x c.args.y)) in
    omega (arith, small)

pub overflow_add-result : goal.overflow_add-result
overflow_add-result c =
    let is : c.cell_along-row.result * c.args.card.columns + c.cell_along-column.result ≡ cell_place c.args.card c.args.x c.args.y = simp (c.cell_along-row.ensures, c.cell_along-column.ensures, to_z-of_z c.ranges.y, to_z-of_z c.ranges.x) in
    let small : c.cell_along-row.result * c.args.card.columns + c.cell_along-column.result < 16384 = let f = card_facts c.args.card c.requires.card in
    let m = f.cells_high in
    rw is (omega (arith, place_below c.args.card c.requires.card c.args.x c.args.y)) in
    omega (arith, small)

pub returns : goal.returns
returns c =
    let is : c.cell_along-row.result * c.args.card.columns + c.cell_along-column.result ≡ cell_place c.args.card c.args.x c.args.y = simp (c.cell_along-row.ensures, c.cell_along-column.ensures, to_z-of_z c.ranges.y, to_z-of_z c.ranges.x) in
    is
