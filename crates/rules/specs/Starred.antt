-- Document 01, "Numbers to check by": the starred cases, in a single table under a single claim, proved by computation (proofs/Starred.antt); and cases of document 02's [9], [8], [2], [5], [10], [1] and, in a file of their own, [3].
-- Each row of a step's call is made by both engines ([5]).
use Rattle.std.specs.Prelude.{ℕ, ◌≡◌, List, [], ◌∷◌, ◌++◌, replicate, ℤ, pos, neg_ℤ, Float}
use Rattle.std.specs.Float.{binary64}
use Rattle.std.specs.Float.Ieee.{of_bits}
use Rattle.rules.specs.declared.Card.{Card}
use Rattle.rules.specs.declared.Face.{Face}
use Rattle.rules.specs.declared.Reading.{Reading}
use Rattle.rules.specs.declared.Reading.TheVariants.{Metres, Feet, Nothing}
use Rattle.rules.specs.Site.{read_ground, read_state, sum_of_heights}
use Rattle.rules.specs.Step.{transfer, east_face, next_state}
use Rattle.rules.specs.Textbook.{pressure, pressure_term, ground_term}
use Rattle.rules.specs.Pumps.{check_pumped_with, pumped_run}
use Rattle.rules.specs.Text.{depth_text}
use Rattle.rules.specs.Staff.{with_height, without_height}
use Rattle.rules.specs.Calls.{step_answer, step_next, textbook_answer, textbook_next, staff_answer, kind_answer}
use Rattle.rules.specs.StarredRasters.{StarredRasters}

-- sides 1,000,000 and dt 100; one row
unfoldable pub one_row : (columns : ℕ) → Card
one_row columns = record { columns = columns; rows = 1; dx = 1000000; dy = 1000000; dt = 100; steps = 1 }

-- two columns, dt 1, and so many steps wanted
unfoldable pub slow_row : (steps : ℕ) → Card
slow_row n = record { columns = 2; rows = 1; dx = 1000000; dy = 1000000; dt = 1; steps = n }

-- flat ground 0 of so many cells
unfoldable pub flat : ℕ → List ℤ
flat n = replicate n (pos 0)

-- a 2×1 state: two heights, three eastward velocities of which the middle one may move, four northward ones
unfoldable pub two : (west east middle : ℤ) → List ℤ
two a b u = a ∷ b ∷ pos 0 ∷ u ∷ pos 0 ∷ flat 4

-- a 3×1 state: three heights, four eastward velocities of which the inner two may move, six northward ones; and one that is still
unfoldable pub passing : (west middle east first second : ℤ) → List ℤ
passing a b c u v = a ∷ b ∷ c ∷ pos 0 ∷ u ∷ v ∷ pos 0 ∷ flat 6

unfoldable pub three : (west middle east : ℤ) → List ℤ
three a b c = passing a b c (pos 0) (pos 0)

-- document 01's pond, and the face between its first two cells
unfoldable pub pond_ground : List ℤ
pond_ground = pos 0 ∷ pos 400000 ∷ pos 100000 ∷ []

unfoldable pub pond : List ℤ
pond = three (pos 1000000) (pos 600000) (pos 900000)

unfoldable pub pond_face : Face
pond_face = east_face (one_row 3) (read_ground (one_row 3) pond_ground) (read_state (one_row 3) pond) 0 0

-- document 02's case of [9]: water that passes through, both inner faces at 6,000,000
unfoldable pub through : List ℤ
through = passing (pos 1000000) (pos 1000000) (pos 1000000) (pos 6000000) (pos 6000000)

-- two columns and two rows; a state of theirs: four heights, six eastward velocities, six northward ones of which the first inner one may move
unfoldable pub square : Card
square = record { columns = 2; rows = 2; dx = 1000000; dy = 1000000; dt = 100; steps = 1 }

unfoldable pub four : (southwest southeast northwest northeast north : ℤ) → List ℤ
four a b c d v = a ∷ b ∷ c ∷ d ∷ (flat 6 ++ (pos 0 ∷ pos 0 ∷ v ∷ flat 3))

-- a row of the table, where the list that is lent for the next state holds the state itself: by both engines the step has this number, and leaves this there
abbrev pub Leaves : (columns : ℕ) (land state pumps : List ℤ) (number : ℕ) (then : List ℤ) → Type 0
Leaves columns g s ps k then =
    let c = one_row columns in
    (step_answer c g s ps s ≡ k) × (step_next c g s ps s ≡ then) × (textbook_answer c g s ps s ≡ k) × (textbook_next c g s ps s ≡ then)

-- the step without pumps is accepted, and leaves this state there
abbrev pub Steps : (columns : ℕ) (land state then : List ℤ) → Type 0
Steps columns g s then = Leaves columns g s [] 0 then

-- it is refused with this number, and leaves the list as it was lent
abbrev pub Refuses : (columns : ℕ) (land state : List ℤ) (number : ℕ) → Type 0
Refuses columns g s k = Leaves columns g s [] k s

-- the same of a 2×1 site on flat ground with pumps
abbrev pub PumpedSteps : (state pumps then : List ℤ) → Type 0
PumpedSteps s ps then = Leaves 2 (flat 2) s ps 0 then

abbrev pub PumpedRefuses : (state pumps : List ℤ) (number : ℕ) → Type 0
PumpedRefuses s ps k = Leaves 2 (flat 2) s ps k s

-- a value of a staff reading, its float given by its bits, gives this height; or is refused
abbrev pub StaffGives : (unit : Float → Reading) (bits height : ℕ) → Type 0
StaffGives unit b h = staff_answer (unit (of_bits binary64 b)) ≡ with_height (pos h)

abbrev pub StaffRefuses : (unit : Float → Reading) (bits : ℕ) → Type 0
StaffRefuses unit b = staff_answer (unit (of_bits binary64 b)) ≡ without_height 3

pub record Starred : Type 0 where
  -- two heights, still: heights stay, the middle velocity is 980,665; and the second step
  pub first_step : Steps 2 (flat 2) (two (pos 2000000) (pos 1000000) (pos 0)) (two (pos 2000000) (pos 1000000) (pos 980665))
  pub second_step : Steps 2 (flat 2) (two (pos 2000000) (pos 1000000) (pos 980665)) (two (pos 1803867) (pos 1196133) (pos 1512534))
  -- the middle at 10,000,000 empties the west cell; one more breaks the step limit
  pub emptied : Steps 2 (flat 2) (two (pos 2000000) (pos 1000000) (pos 10000000)) (two (pos 0) (pos 3000000) (pos 391338))
  pub over_limit : Refuses 2 (flat 2) (two (pos 2000000) (pos 1000000) (pos 10000001)) 4
  -- so it does to the west, out of the other cell
  pub over_limit_west : Refuses 2 (flat 2) (two (pos 2000000) (pos 1000000) (neg_ℤ (pos 10000001))) 4
  -- document 02, [9]: water passes through the middle cell
  pub passed_through : Steps 3 (flat 3) through (passing (pos 400000) (pos 1000000) (pos 1600000) (pos 2840172) (pos 5411601))
  -- document 02, [8]: each cell counts once in the sum of heights; and of 3 µm 1 crosses to the north, and none is lost
  pub each_once : sum_of_heights square (four (pos 1) (pos 20) (pos 300) (pos 4000) (pos 0)) ≡ pos 4321
  pub one_crosses : sum_of_heights square (next_state square (flat 4) (four (pos 3) (pos 0) (pos 0) (pos 0) (pos 5000000))) ≡ pos 3
  -- from height 3 at 5,000,000: 1; at -5,000,000: -1, not -2; the water comes from K, or from L, and the other cell is dry
  pub transfer_east : transfer 100 1000000 (pos 3) (pos 0) (pos 5000000) ≡ pos 1
  pub transfer_west : transfer 100 1000000 (pos 0) (pos 3) (neg_ℤ (pos 5000000)) ≡ neg_ℤ (pos 1)
  -- a pond over uneven ground lies still
  pub still_pond : Steps 3 pond_ground pond pond
  -- [5], the textbook's pressure, and its two terms between the pond's first two cells: they are opposite, and so nothing pulls
  pub pressure_doubled : pressure (pos 2000000) ≡ pos 4000000000000
  pub pressure_in_the_pond : pressure_term pond_face ≡ neg_ℤ (pos 640000000000)
  pub ground_in_the_pond : ground_term pond_face ≡ pos 640000000000
  -- a dry bank, document 01's case, with document 02's [2]: it no longer pulls
  pub dry_bank_is : Steps 2 (pos 0 ∷ pos 1500000 ∷ []) (two (pos 1000000) (pos 0) (pos 0)) (two (pos 1000000) (pos 0) (pos 0))
  -- [2], a bank just as high as the water, and a velocity left on its face: that is 0 now; a bank 1 µm lower is none, and the velocity stays
  pub bank_level : Steps 2 (neg_ℤ (pos 400000) ∷ pos 600000 ∷ []) (two (pos 1000000) (pos 0) (neg_ℤ (pos 3000000))) (two (pos 1000000) (pos 0) (pos 0))
  pub bank_below : Steps 2 (neg_ℤ (pos 400000) ∷ pos 599999 ∷ []) (two (pos 1000000) (pos 0) (neg_ℤ (pos 3000000))) (two (pos 1000000) (pos 0) (neg_ℤ (pos 3000000)))
  -- [2], a bank with 1 µm of water on it is not dry
  pub bank_wet : Steps 2 (pos 0 ∷ pos 1500000 ∷ []) (two (pos 1000000) (pos 1) (pos 0)) (two (pos 1000000) (pos 1) (neg_ℤ (pos 490333)))
  -- [2], the new heights count: the west cell is dry once the step has emptied it, and a bank
  pub bank_emptied : Steps 2 (pos 3000000 ∷ pos 0 ∷ []) (two (pos 2000000) (pos 1000000) (pos 10000000)) (two (pos 0) (pos 3000000) (pos 0))
  -- [2], so does the new surface: it comes up to the bank in the east, which stops the water that runs there; one 1 µm lower does not
  pub bank_stops : Steps 3 (pos 0 ∷ pos 0 ∷ pos 2000000 ∷ []) (passing (pos 2000000) (pos 1000000) (pos 0) (pos 5000000) (pos 0)) (passing (pos 1000000) (pos 2000000) (pos 0) (pos 2352668) (pos 0))
  pub bank_overrun : Steps 3 (pos 0 ∷ pos 0 ∷ pos 1999999 ∷ []) (passing (pos 2000000) (pos 1000000) (pos 0) (pos 5000000) (pos 0)) (passing (pos 1000000) (pos 2000000) (pos 0) (pos 2352668) (pos 2500000))
  -- [10], a pump takes no more than is there, and the step is made from what it leaves
  pub pumped_dry : PumpedSteps (two (pos 300000) (pos 1000000) (pos 0)) (pos 0 ∷ neg_ℤ (pos 1000000) ∷ []) (two (pos 0) (pos 1000000) (neg_ℤ (pos 980665)))
  -- [10], two pumps on one cell, in both orders
  pub inlet_first : PumpedSteps (two (pos 300000) (pos 500000) (pos 0)) (pos 0 ∷ pos 500000 ∷ pos 0 ∷ neg_ℤ (pos 1000000) ∷ []) (two (pos 0) (pos 500000) (neg_ℤ (pos 490332)))
  pub inlet_last : PumpedSteps (two (pos 300000) (pos 500000) (pos 0)) (pos 0 ∷ neg_ℤ (pos 1000000) ∷ pos 0 ∷ pos 500000 ∷ []) (two (pos 500000) (pos 500000) (pos 0))
  -- [10], an inlet to 50,000,000, and one past it, though a later pump would take it back; a broken step limit comes before that
  pub to_the_top : PumpedSteps (two (pos 49000000) (pos 50000000) (pos 0)) (pos 0 ∷ pos 1000000 ∷ []) (two (pos 50000000) (pos 50000000) (pos 0))
  pub past_the_top : PumpedRefuses (two (pos 49000001) (pos 50000000) (pos 0)) (pos 0 ∷ pos 1000000 ∷ pos 0 ∷ neg_ℤ (pos 1000000) ∷ []) 5
  pub limit_before_the_top : PumpedRefuses (two (pos 49000001) (pos 50000000) (pos 10000001)) (pos 0 ∷ pos 1000000 ∷ []) 4
  -- [10], 64 pumps pass the checks, and 65 do not; a word left over behind 64 pumps; a cell and an amount that are out of range, on both sides
  pub sixty_four : check_pumped_with (one_row 2) (flat 2) (two (pos 7) (pos 7) (pos 0)) (flat 128) 9 ≡ 0
  pub sixty_five : PumpedRefuses (two (pos 7) (pos 7) (pos 0)) (flat 130) 1
  pub left_over : PumpedRefuses (two (pos 7) (pos 7) (pos 0)) (flat 129) 2
  pub no_such_cell : PumpedRefuses (two (pos 7) (pos 7) (pos 0)) (pos 2 ∷ pos 0 ∷ []) 3
  pub no_such_cell_below : PumpedRefuses (two (pos 7) (pos 7) (pos 0)) (neg_ℤ (pos 1) ∷ pos 0 ∷ []) 3
  pub amount_too_great : PumpedRefuses (two (pos 7) (pos 7) (pos 0)) (pos 1 ∷ pos 1000001 ∷ []) 3
  pub amount_too_small : PumpedRefuses (two (pos 7) (pos 7) (pos 0)) (pos 1 ∷ neg_ℤ (pos 1000001) ∷ []) 3
  -- [10], a run: the first step finds 300 to take and the second nothing; the third is refused by its inlet, and what its pump would take does not count
  pub totals : pumped_run (slow_row 9) (flat 2) (two (pos 300) (pos 48000100) (pos 0)) (pos 0 ∷ neg_ℤ (pos 1000) ∷ pos 1 ∷ pos 900000 ∷ []) ≡ record { tally = record { steps = 2; reason = 5; top = pos 49776219; added = 1800000; taken = 300 }; state = two (pos 23881) (pos 49776219) (neg_ℤ (pos 967219)) }
  -- [1], 1.5 m, 1 ft, -0.0 m and -0.0 ft, no reading
  pub metres : StaffGives Metres 0x3ff8_0000_0000_0000 1500000
  pub foot : StaffGives Feet 0x3ff0_0000_0000_0000 304800
  pub minus_zero_lem : StaffGives Metres 0x8000_0000_0000_0000 0
  pub minus_zero_feet : StaffGives Feet 0x8000_0000_0000_0000 0
  pub no_reading : staff_answer Nothing ≡ without_height 0
  -- [1], 50 m, and the next float above it, whose product 50,000,000.00000001 would go to 50,000,000; so would 50.0000004 m; the product of 164.04199475065616 ft rounds to 50,000,000, and that of the next float is above
  pub fifty_metres : StaffGives Metres 0x4049_0000_0000_0000 50000000
  pub above_fifty_metres : StaffRefuses Metres 0x4049_0000_0000_0001
  pub into_range_if_rounded : StaffRefuses Metres 0x4049_0000_035a_fe53
  pub fifty_metres_in_feet : StaffGives Feet 0x4064_8158_0560_1580 50000000
  pub above_fifty_metres_in_feet : StaffRefuses Feet 0x4064_8158_0560_1581
  -- [1], halves go up: 1/128 m is 7,812.5, 1/64 ft is 4,762.5, and the product of 49.9999995 m rounds to 49,999,999.5
  pub half_up : StaffGives Metres 0x3f80_0000_0000_0000 7813
  pub half_up_in_feet : StaffGives Feet 0x3f90_0000_0000_0000 4763
  pub half_up_at_the_top : StaffGives Metres 0x4048_ffff_fbce_4218 50000000
  -- [1], the float of 0.0000005 m is a little less, but its product is rounded once as floats do, to 0.5: it gives 1; the next float below gives 0
  pub half_a_micrometre : StaffGives Metres 0x3ea0_c6f7_a0b5_ed8d 1
  pub less_than_half : StaffGives Metres 0x3ea0_c6f7_a0b5_ed8c 0
  -- [1], a product of 0.49999999999999994 gives 0, though with 0.5 added as a float it is 1
  pub no_half_added : StaffGives Feet 0x3ebb_858c_ce85_2599 0
  -- [1], the smallest float above 0, and the greatest below it; the greatest of all, whose product overflows; both infinities; a NaN, by the bits of three
  pub smallest : StaffGives Metres 1 0
  pub smallest_below : StaffRefuses Metres 0x8000_0000_0000_0001
  pub overflows : StaffRefuses Feet 0x7fef_ffff_ffff_ffff
  pub infinity : StaffRefuses Metres 0x7ff0_0000_0000_0000
  pub infinity_below : StaffRefuses Feet 0xfff0_0000_0000_0000
  pub quiet_nan : StaffRefuses Metres 0x7ff8_0000_0000_0000
  pub signalling_nan : StaffRefuses Feet 0x7ff0_0000_0000_0001
  pub negative_nan : StaffRefuses Metres 0xffff_ffff_ffff_ffff
  -- [1], by kinds: 0 is no reading, whatever the value, here a NaN; 1 m, 1 ft; there is no kind 3
  pub kind_0 : kind_answer 0 (of_bits binary64 0x7ff8_0000_0000_0000) ≡ staff_answer Nothing
  pub kind_1 : kind_answer 1 (of_bits binary64 0x3ff0_0000_0000_0000) ≡ with_height (pos 1000000)
  pub kind_2 : kind_answer 2 (of_bits binary64 0x3ff0_0000_0000_0000) ≡ with_height (pos 304800)
  pub kind_3 : kind_answer 3 (of_bits binary64 0x3ff0_0000_0000_0000) ≡ without_height 3
  -- "dry", "<1 cm", "1 cm", "2 cm"
  pub text_0 : depth_text (pos 0) ≡ 100 ∷ 114 ∷ 121 ∷ []
  pub text_9999 : depth_text (pos 9999) ≡ 60 ∷ 49 ∷ 32 ∷ 99 ∷ 109 ∷ []
  pub text_10000 : depth_text (pos 10000) ≡ 49 ∷ 32 ∷ 99 ∷ 109 ∷ []
  pub text_15000 : depth_text (pos 15000) ≡ 50 ∷ 32 ∷ 99 ∷ 109 ∷ []
  -- [3], rasters read and written
  pub rasters : StarredRasters
