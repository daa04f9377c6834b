-- Where velocities are 0: nothing crosses a face that has none; a cell whose four faces have none keeps the step limit and its height; the face between two such
-- cells carries nothing.
use Prim.Native.Nat.{ℕ, zero, suc, ◌*◌, zero-le}
use Rattle.std.specs.Prelude.{◌≡◌, true, ltb, ℤ, pos}
use Rattle.std.proofs.Math.Path.{refl}
use Rattle.std.proofs.Math.Nat.{zero-mul}
use Rattle.std.proofs.Common.{mul-zero, le-leb}
use Rattle.std.proofs.Math.IntN.{+ℤ_idr, zero-*ℤ, *ℤ-zero}
use Rattle.rules.specs.declared.Card.{Card}
use Rattle.rules.specs.declared.Face.{Face}
use Rattle.rules.specs.Grid.{Field}
use Rattle.rules.specs.Site.{Water}
use Rattle.rules.specs.Step.{walled, transfer, east_transfer, north_transfer, forward, backward, within_limit, new_height, east_face, north_face, out_ahead, out_behind, out_above, out_below, positive, brought, carried}
use Rattle.laws.specs.Tests.{either_way}

module _ (c : Card) (w : Water) where
  -- nothing crosses a face that has no velocity, be it a wall or not
  pub east_still_lem : (i j : ℕ) → w.east i j ≡ pos 0 → east_transfer c w i j ≡ pos 0
  unfolding east_transfer walled transfer
  east_still_lem zero j e = refl
  east_still_lem (suc i) j e = rw e (either_way (ltb (suc i) c.columns) (pos 0))

  pub north_still_lem : (i j : ℕ) → w.north i j ≡ pos 0 → north_transfer c w i j ≡ pos 0
  unfolding north_transfer walled transfer
  north_still_lem i zero e = refl
  north_still_lem i (suc j) e = rw e (either_way (ltb (suc j) c.rows) (pos 0))

-- ---- a cell whose four faces have no velocity

pub record StillCell (w : Water) (i j : ℕ) : Type 0 where
  pub west : w.east i j ≡ pos 0
  pub east : w.east (suc i) j ≡ pos 0
  pub south : w.north i j ≡ pos 0
  pub north : w.north i (suc j) ≡ pos 0

module _ (c : Card) {w : Water} {i j : ℕ} (s : StillCell w i j) where
  pub limit_still : within_limit c w i j ≡ true
  unfolding within_limit forward backward
  limit_still = rw (s.west, s.east, s.south, s.north, zero-mul, zero-mul, mul-zero) (le-leb 0 (1000 * (c.dx * c.dy)) zero-le)

  pub height_still : new_height c w i j ≡ w.height i j
  unfolding new_height
  height_still = rw (east_still_lem c w i j s.west, east_still_lem c w (suc i) j s.east, north_still_lem c w i j s.south, north_still_lem c w i (suc j) s.north, +ℤ_idr, +ℤ_idr, +ℤ_idr, +ℤ_idr)

-- ---- a face that has no velocity, around which nothing crosses

pub record NothingCrosses (f : Face) : Type 0 where
  pub u : f.u ≡ pos 0
  pub own : f.own ≡ pos 0
  pub ahead : f.ahead ≡ pos 0
  pub behind : f.behind ≡ pos 0
  pub above_k : f.above_k ≡ pos 0
  pub above_l : f.above_l ≡ pos 0
  pub below_k : f.below_k ≡ pos 0
  pub below_l : f.below_l ≡ pos 0

-- where nothing flows, nothing is brought
none_brought : (v : ℤ) → brought (pos 0) v ≡ pos 0
unfolding brought forward positive
none_brought v = zero-*ℤ v

pub carries_nothing : {f : Face} → NothingCrosses f → carried f ≡ pos 0
unfolding carried out_ahead out_behind out_above out_below
carries_nothing {f} s =
    rw (s.u, s.own, s.ahead, s.behind, s.above_k, s.above_l, s.below_k, s.below_l, *ℤ-zero, none_brought f.u_ahead, none_brought f.u_behind, none_brought f.u_above, none_brought f.u_below)

-- the face between two such cells
module _ (c : Card) (g : Field) {w : Water} {i j : ℕ} (k : StillCell w i j) where
  pub east_none : StillCell w (suc i) j → NothingCrosses (east_face c g w i j)
  unfolding east_face
  east_none l = record {
    u = k.east;
    own = east_still_lem c w (suc i) j k.east;
    ahead = east_still_lem c w (suc (suc i)) j l.east;
    behind = east_still_lem c w i j k.west;
    above_k = north_still_lem c w i (suc j) k.north;
    above_l = north_still_lem c w (suc i) (suc j) l.north;
    below_k = north_still_lem c w i j k.south;
    below_l = north_still_lem c w (suc i) j l.south;
  }

  pub north_none : StillCell w i (suc j) → NothingCrosses (north_face c g w i j)
  unfolding north_face
  north_none l = record {
    u = k.north;
    own = north_still_lem c w i (suc j) k.north;
    ahead = north_still_lem c w i (suc (suc j)) l.north;
    behind = north_still_lem c w i j k.south;
    above_k = east_still_lem c w (suc i) j k.east;
    above_l = east_still_lem c w (suc i) (suc j) l.east;
    below_k = east_still_lem c w i j k.west;
    below_l = east_still_lem c w i (suc j) l.west;
  }
