-- The tide of one step, kept in the state's own layout: the new heights, then what crosses each eastward face, then each northward face.
use Rattle.std.specs.Prelude.{Bool, List, ◌++◌, suc, ℤ, pos}
use Rattle.std.specs.Int.Signed.{le_z}
use Rattle.rules.specs.declared.Card.{Card}
use Rattle.rules.specs.Grid.{grid, all_at}
use Rattle.rules.specs.Site.{Water, read_state}
use Rattle.rules.specs.Step.{east_transfer, north_transfer, new_height}

unfoldable pub tide : Card → Water → Water
tide c w = record { height = new_height c w; east = east_transfer c w; north = north_transfer c w }

-- the part of it behind the heights
unfoldable pub crossings : Card → Water → List ℤ
crossings c w = grid (suc c.columns) c.rows (east_transfer c w) ++ grid c.columns (suc c.rows) (north_transfer c w)

-- whether every height of a list in this layout is no more than 50,000,000
unfoldable pub tide_fits : Card → List ℤ → Bool
tide_fits c t = all_at c.columns c.rows (λ i j. le_z ((read_state c t).height i j) (pos 50000000))
