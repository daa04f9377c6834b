-- The numbers around an inner face, said once for both ways that faces point; and what stands where.
use Rattle.std.specs.Prelude.{ℕ, ℤ}
use Rattle.rules.specs.declared.Card.{Card}
use Rattle.rules.specs.declared.Face.{Face}
use Rattle.rules.specs.Grid.{Field}
use Rattle.rules.specs.Site.{Water}
use Rattle.rules.specs.Step.{after, before, new_height}
use Rattle.layout.specs.declared.ways.Way.{Way}
use Rattle.layout.specs.Ways.{forth, speeds, transfers, across, pick}

-- what a field has one place further on. Of the faces that point this way, (i, j) is the near one of cell (i, j), and this the far one.
abbrev pub onward : Way → Field → Field
onward way f i j = f (forth way i) (forth (across way) j)

-- the velocities of the faces abreast of face (i, j), in a line across its direction
abbrev pub abreast : Water → Way → ℕ → ℕ → ℕ → ℤ
abreast w way i j k = speeds w way (pick way i k) (pick way k j)

-- of the next one and of the one before; beyond a side wall there is none
unfoldable pub speed_above : Card → Water → Way → Field
speed_above c w way i j = after (pick way c.rows c.columns) (abreast w way i j) (pick way j i)

unfoldable pub speed_below : Water → Way → Field
speed_below w way i j = before (abreast w way i j) (pick way j i)

-- the numbers around the face that lies between cell K at (i, j) and cell L: the near one of L
unfoldable pub gathered_face : Card → Field → Water → Way → (i j i_l j_l : ℕ) → Face
gathered_face c g w way i j i_l j_l = record {
  old_k = w.height i j;
  old_l = w.height i_l j_l;
  new_k = new_height c w i j;
  new_l = new_height c w i_l j_l;
  ground_k = g i j;
  ground_l = g i_l j_l;
  own = transfers c w way i_l j_l;
  ahead = onward way (transfers c w way) i_l j_l;
  behind = transfers c w way i j;
  above_k = onward (across way) (transfers c w (across way)) i j;
  above_l = onward (across way) (transfers c w (across way)) i_l j_l;
  below_k = transfers c w (across way) i j;
  below_l = transfers c w (across way) i_l j_l;
  u = speeds w way i_l j_l;
  u_ahead = onward way (speeds w way) i_l j_l;
  u_behind = speeds w way i j;
  u_above = speed_above c w way i_l j_l;
  u_below = speed_below w way i_l j_l;
}
