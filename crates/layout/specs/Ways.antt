-- The two ways that faces point, so that what holds of both is said once.
-- Face (i, j) lies at the west side of cell (i, j), or at its south side.
use Rattle.std.specs.Prelude.{ℕ, suc, ◌+◌, ◌*◌, ◌-◌, Bool, ◌||◌, eqb}
use Rattle.rules.specs.declared.Card.{Card}
use Rattle.rules.specs.Grid.{Field}
use Rattle.rules.specs.Site.{Water}
use Rattle.rules.specs.Step.{east_transfer, north_transfer}
use Rattle.layout.specs.declared.ways.Way.{Way}
use Rattle.layout.specs.declared.ways.Way.TheVariants.{East, North}

-- the other way, which crosses it
abbrev pub across : Way → Way
across East = North
across North = East

-- the first number for eastward faces, the second for northward ones
abbrev pub pick : Way → ℕ → ℕ → ℕ
pick East m n = m
pick North m n = n

-- the columns and the rows of the grid of these faces, and where it starts in a state
unfoldable pub wide : Card → Way → ℕ
wide c East = suc c.columns
wide c North = c.columns

unfoldable pub high : Card → Way → ℕ
high c East = c.rows
high c North = suc c.rows

unfoldable pub first : Card → Way → ℕ
first c East = c.rows * c.columns
first c North = c.rows * c.columns + c.rows * suc c.columns

-- the side of a cell that crosses them
unfoldable pub side : Card → Way → ℕ
side c East = c.dx
side c North = c.dy

-- whether face (i, j) is a wall
unfoldable pub is_wall : Card → Way → ℕ → ℕ → Bool
is_wall c East i j = eqb i 0 || eqb i c.columns
is_wall c North i j = eqb j 0 || eqb j c.rows

-- one less, or as it is: cell K of face (i, j) is in column `back way i` and row `back (across way) j`
unfoldable pub back : Way → ℕ → ℕ
back East n = n - 1
back North n = n

-- one more, or as it is: from cell K of a face on to its cell L
unfoldable pub forth : Way → ℕ → ℕ
forth East n = suc n
forth North n = n

-- what stands at these faces, and what crosses them
unfoldable pub speeds : Water → Way → Field
speeds w East = w.east
speeds w North = w.north

unfoldable pub transfers : Card → Water → Way → Field
transfers c w East = east_transfer c w
transfers c w North = north_transfer c w
