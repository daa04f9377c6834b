-- The inner faces, and what the functions that look at one require.
use Rattle.std.specs.Prelude.{ℕ, ◌<◌}
use Rattle.rules.specs.declared.Card.{Card}
use Rattle.rules.specs.declared.Face.{Face}
use Rattle.rules.specs.Grid.{Field}
use Rattle.rules.specs.Site.{Water, read_ground, read_state}
use Rattle.rules.specs.Step.{east_face, north_face}
use Rattle.layout.specs.declared.ways.Way.{Way}
use Rattle.layout.specs.declared.ways.Way.TheVariants.{East, North}
use Rattle.layout.specs.Ways.{forth, across}
use Rattle.around.specs.declared.flow.Flow.{Flow}

-- the inner face of which (i, j) is cell K
unfoldable pub inner_face : Card → Field → Water → Way → ℕ → ℕ → Face
inner_face c g w East = east_face c g w
inner_face c g w North = north_face c g w

-- that of a step half way through
abbrev pub flow_face : Flow → Way → ℕ → ℕ → Face
flow_face f = inner_face f.card (read_ground f.card f.land.now) (read_state f.card f.state.now)

-- there is one: cell L is a cell too
pub record AtFace (c : Card) (way : Way) (i j : ℕ) : Type 0 where
  pub column : forth way i < c.columns
  pub row : forth (across way) j < c.rows
