-- A still face: its new velocity asks for its levels, the new heights and the ground of its cells, and for nothing else. It has the levels of the inner face in
-- its place.
use Rattle.std.specs.Prelude.{ℕ, ◌<◌, ◌≡◌, List, ℤ, pos, length}
use Rattle.rules.specs.declared.Card.{Card}
use Rattle.rules.specs.declared.Face.{Face}
use Rattle.rules.specs.Grid.{Field}
use Rattle.rules.specs.Site.{cells, state_length}
use Rattle.laws.specs.Facts.{Ranges}
use Rattle.layout.specs.declared.ways.Way.{Way}
use Rattle.layout.specs.Ways.{forth, across}

-- the face of which (i, j) is cell K, over this ground and these new heights, with 0 for all that its new velocity does not ask for
unfoldable pub still_face : (land height : Field) → Way → ℕ → ℕ → Face
still_face g h way i j = record {
  old_k = pos 0;
  old_l = pos 0;
  new_k = h i j;
  new_l = h (forth way i) (forth (across way) j);
  ground_k = g i j;
  ground_l = g (forth way i) (forth (across way) j);
  own = pos 0;
  ahead = pos 0;
  behind = pos 0;
  above_k = pos 0;
  above_l = pos 0;
  below_k = pos 0;
  below_l = pos 0;
  u = pos 0;
  u_ahead = pos 0;
  u_behind = pos 0;
  u_above = pos 0;
  u_below = pos 0;
}

-- both its cells have a place in a ground and in a list that has the layout of a state
pub record StillPlace (c : Card) (g t : List ℤ) (way : Way) (i j : ℕ) : Type 0 where
  pub card : Ranges c
  pub land : length g ≡ cells c
  pub tide : length t ≡ state_length c
  pub column : forth way i < c.columns
  pub row : forth (across way) j < c.rows
