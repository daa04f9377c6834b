-- `pump_fits`: the cell's two tests, and the amount's two, which are one of its size.
use mathlib.Core.Path.{◌≡◌, ap, ◌∙◌}
use Rattle.std.proofs.Common.{rules, to_z, of_z}
use lib.IntN.{pos}
use mir.Syntax.{w32}
use Rattle.laws.specs.Exact.{value, nat}
use Rattle.rules.specs.Site.{cells}
use Rattle.rules.specs.Pumps.{pump_fits}
use Rattle.pumps.proofs.Amounts.{in_range}
use Rattle.pumps.proofs.pump_fits.Goals as goal

pub returns : goal.returns
unfolding pump_fits
returns c =
    let one = c.args.one in
    let cell_is : to_z w32 (of_z w32 one.cell) ≡ one.cell = search rules in
    let amount_is : to_z w32 (of_z w32 one.amount) ≡ one.amount = search rules in
    let cells_is = value (nat {w = w32} c.cells-cells.ensures.1 tt) ∙ ap pos c.cells-cells.ensures.0 in
    rw (cell_is, amount_is, cells_is) (in_range one.cell one.amount (cells c.args.card))
