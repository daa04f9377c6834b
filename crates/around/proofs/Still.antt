-- The still face in the place of an inner face has its levels. Between two still rows of cells nothing crosses any face, so that a face there carries no momentum:
-- its new velocity is that of the still face.
use Prim.Native.Nat.{ℕ}
use mathlib.Core.Path.{◌≡◌, ◌∙◌, refl, sym}
use mathlib.Core.List.{List}
use lib.IntN.{ℤ}
use Rattle.rules.specs.declared.Card.{Card}
use Rattle.rules.specs.Grid.{Field}
use Rattle.rules.specs.Site.{read_ground, read_state}
use Rattle.rules.specs.Step.{new_velocity}
use Rattle.laws.specs.Levels.{SameLevels, same_velocity}
use Rattle.laws.specs.Still.{NothingCrosses, carries_nothing}
use Rattle.layout.specs.declared.ways.Way.{Way}
use Rattle.layout.specs.Ways.{forth, across}
use Rattle.still.specs.Rows.{CellsStill}
use Rattle.still.proofs.Rows.{near_still, far_still}
use Rattle.transfers.proofs.Crossings.{over_still}
use Rattle.around.specs.Around.{gathered_face}
use Rattle.around.specs.Flowing.{Flowing}
use Rattle.around.specs.Faces.{AtFace, inner_face}
use Rattle.around.specs.Still.{still_face}
use Rattle.around.proofs.Around.{cell_k, cell_l, gathered_is}
use Rattle.around.proofs.Flows.{tide_height}

pub all_still_lem : (g h : Field) (way : Way) (i j : ℕ) → NothingCrosses (still_face g h way i j)
unfolding still_face
all_still_lem g h way i j = record { u = refl; own = refl; ahead = refl; behind = refl; above_k = refl; above_l = refl; below_k = refl; below_l = refl }

module _ {c : Card} {g s t : List ℤ} (f : Flowing c g s t) {way : Way} {i j : ℕ} (a : AtFace c way i j) where
  abbrev height : Field
  height = (read_state c t).height

  -- the still face, over the tide's heights, has the levels of the inner face
  pub levels_same : SameLevels (still_face (read_ground c g) height way i j) (inner_face c (read_ground c g) (read_state c s) way i j)
  unfolding gathered_face still_face
  levels_same =
      rw (← gathered_is c (read_ground c g) (read_state c s) way i j)
      (record { new_k = tide_height f (cell_k a); new_l = tide_height f (cell_l a refl refl); ground_k = refl; ground_l = refl })

module _ {c : Card} {g s t : List ℤ} (f : Flowing c g s t) {way : Way} {i j : ℕ} (a : AtFace c way i j) (row_k : CellsStill c (read_state c s) j) (row_l : CellsStill c (read_state c s) (forth (across way) j)) where
  gathered_still : NothingCrosses (gathered_face c (read_ground c g) (read_state c s) way i j (forth way i) (forth (across way) j))
  unfolding gathered_face
  gathered_still =
      let w = read_state c s in
      let k = cell_k a in
      let l = cell_l a refl refl in
      record {
        u = near_still row_l l way;
        own = over_still c w way _ _ (near_still row_l l way);
        ahead = over_still c w way _ _ (far_still row_l l way);
        behind = over_still c w way _ _ (near_still row_k k way);
        above_k = over_still c w (across way) _ _ (far_still row_k k (across way));
        above_l = over_still c w (across way) _ _ (far_still row_l l (across way));
        below_k = over_still c w (across way) _ _ (near_still row_k k (across way));
        below_l = over_still c w (across way) _ _ (near_still row_l l (across way));
      }

  -- so it has its new velocity
  pub still_velocity : (dt d : ℕ) → new_velocity dt d (still_face (read_ground c g) (height f a) way i j) ≡ new_velocity dt d (inner_face c (read_ground c g) (read_state c s) way i j)
  still_velocity dt d =
      same_velocity (levels_same f a) dt d
      (carries_nothing (all_still_lem (read_ground c g) (height f a) way i j)
      ∙ rw (← gathered_is c (read_ground c g) (read_state c s) way i j) (sym (carries_nothing gathered_still)))
