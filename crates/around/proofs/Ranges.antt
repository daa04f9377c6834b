-- The numbers around an inner face are in their ranges: what the arithmetic of a face requires.
use Prim.Native.Nat.{ℕ, zero, suc, zero-le}
use mathlib.Core.Path.{◌≡◌, refl, sym, subst}
use mathlib.Core.List.{List}
use native.Mathlib.Omega.{arith}
use lib.IntN.{ℤ, pos}
use lib.Signed.{le_z}
use lib.ListN.{length}
use Rattle.rules.specs.declared.Card.{Card}
use Rattle.rules.specs.Site.{Water, read_ground, read_state, state_length}
use Rattle.rules.specs.Step.{walled, after, before, new_height, new_heights_fit}
use Rattle.laws.specs.Tests.{to_T}
use Rattle.laws.specs.Grids.{all_at_at}
use Rattle.laws.specs.Sizes.{Within}
use Rattle.laws.specs.Walls.{behind_has}
use Rattle.laws.specs.Bounded.{new_low}
use Rattle.laws.specs.Reading.{long_of}
use Rattle.face.specs.Ranges.{Height, Speed, Transfer}
use Rattle.momentum.specs.Fits.{Ground, FaceFits}
use Rattle.layout.specs.declared.ways.Way.{Way}
use Rattle.layout.specs.Ways.{speeds, transfers, across}
use Rattle.transfers.proofs.Sites.{facts, depths, height_fits_lem, speed_fits_lem, crossed}
use Rattle.layout.specs.Places.{FaceIn}
use Rattle.around.specs.Around.{speed_above, speed_below, gathered_face}
use Rattle.around.specs.Flowing.{Flowing}
use Rattle.around.specs.Faces.{AtFace, inner_face}
use Rattle.around.specs.Still.{still_face, StillPlace}
use Rattle.layout.proofs.Pointing.{Cell, near_in, far_in}
use Rattle.around.proofs.Around.{cell_k, cell_l, gathered_is}
use Rattle.around.proofs.Flows.{sound_of, tide_height}

-- beside a face stands another one, or a wall
module _ {N : ℕ} (f : ℕ → ℤ) (h : (k : ℕ) → Within N (f k)) where
  after-within : (n k : ℕ) → Within N (after n f k)
  unfolding after walled
  after-within n k = behind_has n (λ i. f (suc i)) (Within N) (record { size = zero-le }) k (λ l. h (suc k))

  before-within : (k : ℕ) → Within N (before f k)
  unfolding before
  before-within zero = record { size = zero-le }
  before-within (suc k) = h k

module _ {c : Card} {g s t : List ℤ} (f : Flowing c g s t) where
  new_fits : {i j : ℕ} → Cell c i j → Height (new_height c (read_state c s) i j)
  unfolding new_heights_fit
  new_fits {i} {j} k =
      let w : Water = read_state c s in
      let card = (facts (sound_of f)).card in
      record {
        low = new_low c w (omega arith) (omega arith) (depths (sound_of f)) (to_T f.limit) i j k.column k.row;
        high = all_at_at c.columns c.rows (λ i j. le_z (new_height c w i j) (pos 50000000)) (to_T f.heights) i j k.column k.row;
      }

  old_fits : {i j : ℕ} → Cell c i j → Height ((read_state c s).height i j)
  old_fits {i} {j} k = height_fits_lem (sound_of f) i j k.column k.row

  ground_fits_lem : (i j : ℕ) → Ground (read_ground c g i j)
  ground_fits_lem i j = record { size = (facts (sound_of f)).ground_at i j }

  crossed_fits : {way : Way} {i j : ℕ} → FaceIn c way i j → Transfer (transfers c (read_state c s) way i j)
  crossed_fits {way} {i} {j} p = crossed (record { sound = sound_of f; limit = f.limit }) way i j p

  module _ (way : Way) {i j i_l j_l : ℕ} (k : Cell c i j) (l : Cell c i_l j_l) where
    gathered_fits : FaceFits (gathered_face c (read_ground c g) (read_state c s) way i j i_l j_l)
    unfolding gathered_face speed_above speed_below
    gathered_fits =
        let speed : (m n : ℕ) → Speed (speeds (read_state c s) way m n) = speed_fits_lem (sound_of f) way in
        record {
          old_k = old_fits k;
          old_l = old_fits l;
          new_k = new_fits k;
          new_l = new_fits l;
          ground_k = ground_fits_lem i j;
          ground_l = ground_fits_lem i_l j_l;
          own = crossed_fits (near_in way l);
          ahead = crossed_fits (far_in way l);
          behind = crossed_fits (near_in way k);
          above_k = crossed_fits (far_in (across way) k);
          above_l = crossed_fits (far_in (across way) l);
          below_k = crossed_fits (near_in (across way) k);
          below_l = crossed_fits (near_in (across way) l);
          u = speed _ _;
          u_ahead = speed _ _;
          u_behind = speed _ _;
          u_above = after-within _ (λ n. speed _ _) _ _;
          u_below = before-within _ (λ n. speed _ _) _;
        }

-- those of a still face, and the places of its cells
module _ {c : Card} {g s t : List ℤ} (f : Flowing c g s t) {way : Way} {i j : ℕ} (a : AtFace c way i j) where
  place_in : {x : List ℤ} → length x ≡ state_length c → StillPlace c g x way i j
  place_in long = let site = facts (sound_of f) in record { card = site.card; land = site.lengths.land; tide = long; column = a.column; row = a.row }

  pub still_place : StillPlace c g t way i j
  still_place = place_in (long_of f.tide)

  -- and in the old state, which stands there for the edit `velocities/levels_of_the_old_state`
  pub old_place : StillPlace c g s way i j
  old_place = place_in (facts (sound_of f)).lengths.state

  pub still_fits : FaceFits (still_face (read_ground c g) (read_state c t).height way i j)
  unfolding still_face
  still_fits =
      let none : Height (pos 0) = record { low = tt; high = tt } in
      let nothing : Transfer (pos 0) = record { size = zero-le } in
      let rest : Speed (pos 0) = record { size = zero-le } in
      record {
        old_k = none;
        old_l = none;
        new_k = subst Height (sym (tide_height f (cell_k a))) (new_fits f (cell_k a));
        new_l = subst Height (sym (tide_height f (cell_l a refl refl))) (new_fits f (cell_l a refl refl));
        ground_k = ground_fits_lem f _ _;
        ground_l = ground_fits_lem f _ _;
        own = nothing;
        ahead = nothing;
        behind = nothing;
        above_k = nothing;
        above_l = nothing;
        below_k = nothing;
        below_l = nothing;
        u = rest;
        u_ahead = rest;
        u_behind = rest;
        u_above = rest;
        u_below = rest;
      }

pub face_fits : {c : Card} {g s t : List ℤ} {way : Way} {i j : ℕ} → Flowing c g s t → AtFace c way i j → FaceFits (inner_face c (read_ground c g) (read_state c s) way i j)
face_fits {c} {g} {s} {t} {way} {i} {j} f a = rw (← gathered_is c (read_ground c g) (read_state c s) way i j) (gathered_fits f way (cell_k a) (cell_l a refl refl))
