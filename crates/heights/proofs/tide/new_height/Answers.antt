-- `new_height`: the tide's words at a cell's faces are its transfers, and the step limit keeps each at 50,000,000 or below in size.
use mathlib.Core.Path.{◌≡◌, ◌∙◌, ap, sym, subst}
use Prim.Native.Nat.{ℕ, suc, ◌≤◌}
use native.Mathlib.Omega.{arith}
use mir.Val.{to_z, of_z}
use mir.Syntax.{w32}
use Rattle.rules.specs.Site.{Water, read_state}
use Rattle.rules.specs.Step.{east_transfer, north_transfer, new_height}
use Rattle.laws.specs.Signed.{word_is, small_is, small_within}
use Rattle.laws.specs.Sizes.{Within}
use Rattle.face.specs.Ranges.{Height}
use Rattle.layout.specs.declared.ways.Way.TheVariants.{East, North}
use Rattle.layout.specs.declared.cells.Cell.{Cell}
use Rattle.layout.specs.Cells.{cell_at}
use Rattle.layout.specs.Ways.{wide, high, speeds, transfers}
use Rattle.transfers.proofs.Sites.{facts, height_fits_lem, height_within, crossed}
use Rattle.heights.proofs.Tides.{crossing}
use Rattle.heights.proofs.tide.new_height.Goals as goal

pub cell_at-cell-requires : goal.cell_at-cell-requires
cell_at-cell-requires c =
    let p = c.requires in
    let f = facts p.lists.limited.sound in
    record { card = f.card; heights = omega (arith, f.lengths.state, p.lists.long); faces = p.lists.long; column = p.column; row = p.row }

pub new_height-requires : goal.new_height-requires
unfolding cell_at wide high speeds transfers
new_height-requires c =
    let w : Water = read_state c.args.card c.args.state.now in
    let cell : Cell = c.cell_at-cell.result in
    let is : cell ≡ cell_at c.args.card c.args.state.now c.args.tide.now c.args.i c.args.j = c.cell_at-cell.ensures in
    let height : to_z w32 (of_z w32 cell.height) ≡ w.height c.args.i c.args.j = let p = c.requires in
    small_is cell.height (ap (λ (x : Cell). x.height) is) (height_within p.lists.limited.sound _ _ p.column p.row) tt in
    let west : cell.west ≡ east_transfer c.args.card w c.args.i c.args.j = let p = c.requires in ap (λ (x : Cell). x.west) is ∙ crossing p.lists East _ _ (record { column = omega (arith, p.column); row = p.row }) in
    let east : cell.east ≡ east_transfer c.args.card w (suc c.args.i) c.args.j = let p = c.requires in ap (λ (x : Cell). x.east) is ∙ crossing p.lists East _ _ (record { column = omega (arith, p.column); row = p.row }) in
    let south : cell.south ≡ north_transfer c.args.card w c.args.i c.args.j = let p = c.requires in ap (λ (x : Cell). x.south) is ∙ crossing p.lists North _ _ (record { column = p.column; row = omega (arith, p.row) }) in
    let north : cell.north ≡ north_transfer c.args.card w c.args.i (suc c.args.j) = let p = c.requires in ap (λ (x : Cell). x.north) is ∙ crossing p.lists North _ _ (record { column = p.column; row = omega (arith, p.row) }) in
    let over_east : (i : ℕ) → i ≤ suc c.args.i → Within 50000000 (east_transfer c.args.card w i c.args.j) = (λ i h. let p = c.requires in crossed p.lists.limited East i _ (record { column = omega (arith, p.column); row = p.row })) in
    let over_north : (j : ℕ) → j ≤ suc c.args.j → Within 50000000 (north_transfer c.args.card w c.args.i j) = (λ j h. let p = c.requires in crossed p.lists.limited North _ j (record { column = p.column; row = omega (arith, p.row) })) in
    let p = c.requires in
    record {
      height = subst Height (sym height) (height_fits_lem p.lists.limited.sound _ _ p.column p.row);
      west = small_within cell.west west (over_east _ (omega arith)) tt;
      east = small_within cell.east east (over_east _ (omega arith)) tt;
      south = small_within cell.south south (over_north _ (omega arith)) tt;
      north = small_within cell.north north (over_north _ (omega arith)) tt;
    }

pub returns : goal.returns
unfolding new_height cell_at wide high speeds transfers
returns c =
    let w : Water = read_state c.args.card c.args.state.now in
    let cell : Cell = c.cell_at-cell.result in
    let is : cell ≡ cell_at c.args.card c.args.state.now c.args.tide.now c.args.i c.args.j = c.cell_at-cell.ensures in
    let height : to_z w32 (of_z w32 cell.height) ≡ w.height c.args.i c.args.j = let p = c.requires in
    small_is cell.height (ap (λ (x : Cell). x.height) is) (height_within p.lists.limited.sound _ _ p.column p.row) tt in
    let west : cell.west ≡ east_transfer c.args.card w c.args.i c.args.j = let p = c.requires in ap (λ (x : Cell). x.west) is ∙ crossing p.lists East _ _ (record { column = omega (arith, p.column); row = p.row }) in
    let east : cell.east ≡ east_transfer c.args.card w (suc c.args.i) c.args.j = let p = c.requires in ap (λ (x : Cell). x.east) is ∙ crossing p.lists East _ _ (record { column = omega (arith, p.column); row = p.row }) in
    let south : cell.south ≡ north_transfer c.args.card w c.args.i c.args.j = let p = c.requires in ap (λ (x : Cell). x.south) is ∙ crossing p.lists North _ _ (record { column = p.column; row = omega (arith, p.row) }) in
    let north : cell.north ≡ north_transfer c.args.card w c.args.i (suc c.args.j) = let p = c.requires in ap (λ (x : Cell). x.north) is ∙ crossing p.lists North _ _ (record { column = p.column; row = omega (arith, p.row) }) in
    let over_east : (i : ℕ) → i ≤ suc c.args.i → Within 50000000 (east_transfer c.args.card w i c.args.j) = (λ i h. let p = c.requires in crossed p.lists.limited East i _ (record { column = omega (arith, p.column); row = p.row })) in
    let over_north : (j : ℕ) → j ≤ suc c.args.j → Within 50000000 (north_transfer c.args.card w c.args.i j) = (λ j h. let p = c.requires in crossed p.lists.limited North _ j (record { column = p.column; row = omega (arith, p.row) })) in
    word_is c.new_height.result c.new_height.type_inv
    (c.new_height.ensures
    ∙ rw (
      height,
      small_is cell.west west (over_east _ (omega arith)) tt,
      small_is cell.east east (over_east _ (omega arith)) tt,
      small_is cell.south south (over_north _ (omega arith)) tt,
      small_is cell.north north (over_north _ (omega arith)) tt,
    ))
