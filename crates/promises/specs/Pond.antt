-- Still water on numbers: a pond with a shore, a cape and a puddle of its own level meets document 02's condition. With 1 µm more in one of its cells it does
-- not, but at sides of 1 m and 100 ms so small a rise rounds to no slope, and nothing moves; with 2 µm more it moves.
use Rattle.std.specs.Prelude.{◌≡◌, refl, true, false, List, [], ◌∷◌, ◌++◌, ℤ, pos, neg_ℤ}
use Rattle.rules.specs.declared.Card.{Card}
use Rattle.rules.specs.Grid.{tabulate, grid, all, all_at}
use Rattle.rules.specs.Site.{read_ground, read_state, write_state, state_length, sizes_fit, sides_fit, times_fit, card_fits, lengths_fit, grounds_fit, heights_fit, velocities_fit, walls_still, values_fit, first_of, check_also, check}
use Rattle.rules.specs.Step.{walled, transfer, east_transfer, north_transfer, forward, backward, within_limit, new_height, after, before, east_face, north_face, out_ahead, out_behind, out_above, out_below, positive, own_share, brought, carried, rise, slope, is_bank, dry_bank, new_east, new_north, next, limit_kept, new_heights_fit, new_velocities_fit, answer, number, step_number_by, next_state_by, step_number, next_state, new_velocity_by}
use Rattle.rules.specs.Starred.{flat}
use Rattle.promises.specs.InnerFaces.{every_inner}
use Rattle.promises.specs.AtRest.{rests_between, faces_rest, all_still, still_water}

unfoldable pub pond_card : Card
pond_card = record { columns = 4; rows = 3; dx = 1000000; dy = 1000000; dt = 100; steps = 1 }

-- the southern row first; the pond's surface is 1,000,000, and three of its banks are just as high
unfoldable pub pond_ground : List ℤ
pond_ground =
    (pos 1200000 ∷ pos 1000000 ∷ pos 700000 ∷ pos 1500000 ∷ [])
    ++ ((pos 1000000 ∷ pos 200000 ∷ pos 400000 ∷ pos 1000000 ∷ [])
    ++ (pos 1300000 ∷ pos 600000 ∷ pos 1100000 ∷ pos 900000 ∷ []))

-- the heights, given that of the deepest cell: the dry shore around; the cape comes in from the north, and beyond it lies the puddle, its surface at 950,000
unfoldable pub pond_heights : (deepest : ℤ) → List ℤ
pond_heights deepest =
    (pos 0 ∷ pos 0 ∷ pos 300000 ∷ pos 0 ∷ [])
    ++ ((pos 0 ∷ deepest ∷ pos 600000 ∷ pos 0 ∷ [])
    ++ (pos 0 ∷ pos 400000 ∷ pos 0 ∷ pos 50000 ∷ []))

-- a still state; and one that moves over the four faces of the deepest cell, at these velocities west, east, south and north of it
unfoldable pub pond : (deepest : ℤ) → List ℤ
pond deepest = pond_heights deepest ++ flat 31

unfoldable pub stirred : (deepest west east south north : ℤ) → List ℤ
stirred deepest a b c d = pond_heights deepest ++ ((flat 6 ++ (a ∷ b ∷ flat 7)) ++ (flat 5 ++ (c ∷ flat 3) ++ (d ∷ flat 6)))

-- what a step makes of it: it is accepted, and leaves this state
abbrev pub Becomes : (state then : List ℤ) → Type 0
Becomes s then = (step_number pond_card pond_ground s ≡ 0) × (next_state pond_card pond_ground s ≡ then)

pub record PondOnNumbers : Type 0 where
  -- 800,000 in the deepest cell: the site passes the first three checks, and its water is still
  pub meets : (check pond_card pond_ground (pond (pos 800000)) ≡ 0) × (still_water pond_card pond_ground (pond (pos 800000)) ≡ true)
  -- 1 µm more: it is not, though nothing moves yet
  pub misses : (still_water pond_card pond_ground (pond (pos 800001)) ≡ false) × Becomes (pond (pos 800001)) (pond (pos 800001))
  -- 2 µm more: it is not, and all four faces of the deepest cell get 1 µm/s out of it, onto the shore in the west and the south too
  pub moves : (still_water pond_card pond_ground (pond (pos 800002)) ≡ false) × Becomes (pond (pos 800002)) (stirred (pos 800002) (neg_ℤ (pos 1)) (pos 1) (neg_ℤ (pos 1)) (pos 1))

pub pond_on_numbers : PondOnNumbers
unfolding pond_card pond_ground pond_heights pond stirred flat tabulate grid all all_at read_ground read_state write_state state_length sizes_fit sides_fit times_fit card_fits lengths_fit grounds_fit heights_fit velocities_fit walls_still values_fit first_of check_also check walled transfer east_transfer north_transfer forward backward within_limit new_height after before east_face north_face out_ahead out_behind out_above out_below positive own_share brought carried rise slope is_bank dry_bank new_velocity_by new_east new_north next limit_kept new_heights_fit new_velocities_fit answer number step_number_by next_state_by every_inner rests_between faces_rest all_still still_water
pond_on_numbers = record { meets = (refl, refl); misses = (refl, (refl, refl)); moves = (refl, (refl, refl)) }
