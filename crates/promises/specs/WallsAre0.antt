-- Of an inner face beside a wall: a wall ahead of it or behind it is a neighbour with velocity 0; beyond a side wall there is no flow, so that nothing comes from there.
use Rattle.std.specs.Prelude.{ℕ, suc, ◌<◌, ◌≡◌, refl, ◌&&◌, List, ℤ, pos, ◌+ℤ◌, T}
use Rattle.std.proofs.Common.{sym, ap₂, le_of_eq}
use Rattle.rules.specs.declared.Card.{Card}
use Rattle.rules.specs.Grid.{Field, all}
use Rattle.rules.specs.Site.{Water, check, read_ground, read_state, is_zero, grounds_fit, heights_fit, velocities_fit, walls_still, values_fit}
use Rattle.rules.specs.Step.{walled, east_transfer, north_transfer, east_face, north_face, out_above, out_below}
use Rattle.laws.specs.Tests.{to_T, and_left, and_right, four_of}
use Rattle.laws.specs.Grids.{all_at_lem}
use Rattle.laws.specs.Walls.{wall}
use Rattle.laws.specs.Numbers.{zero_is}
use Rattle.laws.specs.Facts.{check_sound}

-- of a site that passes the first three checks: behind the first inner face of a row, ahead of its last; and so of a column
pub record WallsAre0 (c : Card) (g : Field) (w : Water) : Type 0 where
  pub west : (j : ℕ) → j < c.rows → (east_face c g w 0 j).u_behind ≡ pos 0
  pub east : (i j : ℕ) → suc (suc i) ≡ c.columns → j < c.rows → (east_face c g w i j).u_ahead ≡ pos 0
  pub south : (i : ℕ) → i < c.columns → (north_face c g w i 0).u_behind ≡ pos 0
  pub north : (i j : ℕ) → i < c.columns → suc (suc j) ≡ c.rows → (north_face c g w i j).u_ahead ≡ pos 0

pub walls_are_0 : (c : Card) (g s : List ℤ) → check c g s ≡ 0 → WallsAre0 c (read_ground c g) (read_state c s)
unfolding values_fit walls_still east_face north_face
walls_are_0 c g s e =
    let w = read_state c s in
    let sides = all c.rows (λ j. is_zero (w.east 0 j) && is_zero (w.east c.columns j)) in
    let ends = all c.columns (λ i. is_zero (w.north i 0) && is_zero (w.north i c.rows)) in
    let still = (four_of (grounds_fit c (read_ground c g)) (heights_fit c w) (velocities_fit c w) (sides && ends) (to_T (check_sound c g s e).values)).four in
    let in_row : (j : ℕ) → j < c.rows → T (is_zero (w.east 0 j) && is_zero (w.east c.columns j)) = all_at_lem c.rows _ (and_left sides ends still) in
    let in_column : (i : ℕ) → i < c.columns → T (is_zero (w.north i 0) && is_zero (w.north i c.rows)) = all_at_lem c.columns _ (and_right sides ends still) in
    record {
      west = λ j h. zero_is (w.east 0 j) (and_left (is_zero (w.east 0 j)) (is_zero (w.east c.columns j)) (in_row j h));
      east = λ i j last h. rw last (zero_is (w.east c.columns j) (and_right (is_zero (w.east 0 j)) (is_zero (w.east c.columns j)) (in_row j h)));
      south = λ i h. zero_is (w.north i 0) (and_left (is_zero (w.north i 0)) (is_zero (w.north i c.rows)) (in_column i h));
      north = λ i j h last. rw last (zero_is (w.north i c.rows) (and_right (is_zero (w.north i 0)) (is_zero (w.north i c.rows)) (in_column i h)));
    }

-- of any site: south of the first row and north of the last, west of the first column and east of the last
pub record NoFlowBeyond (c : Card) (g : Field) (w : Water) : Type 0 where
  pub south : (i : ℕ) → out_below (east_face c g w i 0) ≡ pos 0
  pub north : (i j : ℕ) → suc j ≡ c.rows → out_above (east_face c g w i j) ≡ pos 0
  pub west : (j : ℕ) → out_below (north_face c g w 0 j) ≡ pos 0
  pub east : (i j : ℕ) → suc i ≡ c.columns → out_above (north_face c g w i j) ≡ pos 0

pub no_flow_beyond : (c : Card) (g : Field) (w : Water) → NoFlowBeyond c g w
unfolding out_above out_below east_face north_face east_transfer north_transfer walled
no_flow_beyond c g w = record {
  south = λ i. refl;
  north = λ i j last. ap₂ ◌+ℤ◌ (wall (suc j) c.rows _ (le_of_eq (sym last))) (wall (suc j) c.rows _ (le_of_eq (sym last)));
  west = λ j. refl;
  east = λ i j last. ap₂ ◌+ℤ◌ (wall (suc i) c.columns _ (le_of_eq (sym last))) (wall (suc i) c.columns _ (le_of_eq (sym last)));
}
