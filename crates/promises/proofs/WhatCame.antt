-- Document 02, [8], its second half: what is carried stays between what came. Where H' is above 0, the carried part of a new velocity, before the slope is taken off,
-- lies between the least and the greatest of the face's own velocity and of those of its parallel neighbours that brought water in, both included.
-- It is so on every inner face of every site that passes the first three checks and keeps the step limit, whether or not the step is refused later.
use Rattle.std.specs.Prelude.{ℕ, suc, ◌≡◌, refl, true, false, List, ℤ, pos, ◌+ℤ◌, ◌-ℤ◌, T}
use Rattle.std.proofs.Common.{sym, ◌∙◌}
use Rattle.std.proofs.Math.IntN.{ -ℤ-+ℤ_cancel}
use Rattle.std.specs.Int.Signed.{le_z, lt_z}
use Rattle.rules.specs.declared.Card.{Card}
use Rattle.rules.specs.declared.Face.{Face}
use Rattle.rules.specs.Grid.{Field}
use Rattle.rules.specs.Site.{Water, check, read_ground, read_state, is_zero}
use Rattle.rules.specs.Step.{walled, transfer, east_transfer, north_transfer, forward, new_height, after, before, east_face, north_face, out_ahead, out_behind, out_above, out_below, positive, old_sum, new_sum, own_share, all_flow_in, brought, carried, carried_part, rise, slope, dry_bank, new_velocity, new_east, new_north, next, limit_kept}
use Rattle.rules.specs.Starred.{one_row, flat, passing, through}
use Rattle.laws.specs.Walls.{on_inner}
use Rattle.laws.specs.Numbers.{above_is_not_0}
use Rattle.laws.specs.Velocity.{without_water, on_a_bank, elsewhere}
use Rattle.laws.specs.Balance.{flow_over, share_and_inflow, east_balance, north_balance}
use Rattle.laws.specs.Weighed.{at_least, at_most}
use Rattle.promises.specs.InnerFaces.{EveryInner, EveryFace}
use Rattle.promises.proofs.NoNegativeShare.{no_negative_share}
use Rattle.promises.specs.Brought.{if_brought, velocities_brought, among, least_counted, greatest_counted}
use Rattle.promises.proofs.OneSide.{picks_least, picks_greatest, on_its_side}
-- who does not count; that walls have velocity 0; and that beyond a side wall nothing comes
pub use Rattle.promises.specs.Brought.{brought_nothing}
pub use Rattle.promises.specs.WallsAre0.{walls_are_0, no_flow_beyond}

-- ---- What is promised of a face

pub record StaysBetween (f : Face) : Type 0 where
  pub not_below : T (le_z (least_counted f) (carried_part f))
  pub not_above : T (le_z (carried_part f) (greatest_counted f))

-- The balance of the face's cell: document 002's (13), and the same with what stays and what comes in. These are the weights of the carried part, and none is
-- negative (NoNegativeShare.antt).
pub record Balanced (f : Face) : Type 0 where
  pub by_flows : new_sum f ≡ old_sum f -ℤ (out_ahead f +ℤ out_behind f +ℤ (out_above f +ℤ out_below f))
  pub by_share : new_sum f ≡ own_share f +ℤ all_flow_in f

-- ---- The theorems

-- the balance, of every face that a site has, whatever it holds
pub balance : (c : Card) (g : Field) (w : Water) → EveryFace c g w Balanced
balance c g w = record {
  east = λ i j hi hj. balanced (east_face c g w i j) (east_balance c g w i j);
  north = λ i j hi hj. balanced (north_face c g w i j) (north_balance c g w i j);
}
  where
    balanced : (f : Face) → new_sum f ≡ old_sum f -ℤ flow_over f → Balanced f
    balanced f e = record { by_flows = e; by_share = e ∙ sym (share_and_inflow f) }

stays_between : (f : Face) → T (le_z (pos 0) (own_share f)) → Balanced f → T (lt_z (pos 0) (new_sum f)) → StaysBetween f
unfolding least_counted greatest_counted
stays_between f share b above = record {
  not_below = on_its_side at_least picks_least f share b.by_share above;
  not_above = on_its_side at_most picks_greatest f share b.by_share above;
}

pub carried_between : (c : Card) (g s : List ℤ) → check c g s ≡ 0 → limit_kept c (read_state c s) ≡ true
    → EveryFace c (read_ground c g) (read_state c s) (λ f. T (lt_z (pos 0) (new_sum f)) → StaysBetween f)
carried_between c g s e limit =
    let n = no_negative_share c g s e limit in
    let b = balance c (read_ground c g) (read_state c s) in
    record {
      east = λ i j hi hj above. stays_between _ (n.east i j hi hj) (b.east i j hi hj) above;
      north = λ i j hi hj above. stays_between _ (n.north i j hi hj) (b.north i j hi hj) above;
    }

-- And it is the new velocity's. Given the velocity v that the face has in the next state: with the slope put back that is the carried part, where H' is above 0
-- and neither cell is a dry bank. Without water, and on a bank (document 02, [2]), nothing is carried on.
pub record SlopePutBack (dt d : ℕ) (v : ℤ) (f : Face) : Type 0 where
  pub put_back : T (lt_z (pos 0) (new_sum f)) → dry_bank f ≡ false → v +ℤ slope dt d (rise f) ≡ carried_part f
  pub no_water : is_zero (new_sum f) ≡ true → v ≡ pos 0
  pub on_bank : dry_bank f ≡ true → v ≡ pos 0

of_velocity : (dt d : ℕ) (f : Face) → SlopePutBack dt d (new_velocity dt d f) f
of_velocity dt d f = record {
  put_back = λ above no. rw (elsewhere rise dt d f (above_is_not_0 (new_sum f) above) no) (-ℤ-+ℤ_cancel (carried_part f) (slope dt d (rise f)));
  no_water = without_water rise dt d f;
  on_bank = on_a_bank rise dt d f;
}

pub slope_put_back : (c : Card) (g : Field) (w : Water) → EveryInner c
    (λ i j. SlopePutBack c.dt c.dx ((next new_velocity c g w).east (suc i) j) (east_face c g w i j))
    (λ i j. SlopePutBack c.dt c.dy ((next new_velocity c g w).north i (suc j)) (north_face c g w i j))
unfolding next new_east new_north
slope_put_back c g w = record {
  east = λ i j hi hj. rw (on_inner c.columns (λ k. new_velocity c.dt c.dx (east_face c g w k j)) i hi) (of_velocity c.dt c.dx (east_face c g w i j));
  north = λ i j hi hj. rw (on_inner c.rows (λ k. new_velocity c.dt c.dy (north_face c g w i k)) j hj) (of_velocity c.dt c.dy (north_face c g w i j));
}

-- ---- On numbers: the two inner faces of document 02's case of [9], in which water passes through three cells

unfoldable pub passed_through : ℕ → Face
passed_through i =
    east_face (one_row 3) (read_ground (one_row 3) (flat 3)) (read_state (one_row 3) through) i 0

pub record BoundsOnNumbers : Type 0 where
  -- the first face: the west wall counts, for the water that came from there, and holds the rest back
  pub wall_counts : (least_counted (passed_through 0) ≡ pos 0) × (carried_part (passed_through 0) ≡ pos 3428571) × (greatest_counted (passed_through 0) ≡ pos 6000000)
  -- the second: the first one brought water as fast as its own; the walls brought none, and both ends are met
  pub met_exactly : (least_counted (passed_through 1) ≡ pos 6000000) × (carried_part (passed_through 1) ≡ pos 6000000) × (greatest_counted (passed_through 1) ≡ pos 6000000)

pub bounds_on_numbers : BoundsOnNumbers
unfolding passed_through one_row passing through read_state least_counted greatest_counted velocities_brought among if_brought walled transfer east_transfer north_transfer forward new_height after before east_face out_ahead out_behind out_above out_below positive own_share brought carried
bounds_on_numbers = record { wall_counts = (refl, refl, refl); met_exactly = (refl, refl, refl) }
