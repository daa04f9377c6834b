-- What follows from the rules. Read this file first: it states each promise, or names the file that states it.
-- Nothing is assumed but what a promise says before its last arrow.
use Rattle.std.specs.Prelude.{ℕ, ◌+◌, ◌≡◌, List, ℤ, length}
use Rattle.rules.specs.declared.Card.{Card}
use Rattle.rules.specs.Site.{first_refusal}
use Rattle.rules.specs.Pumps.{check_pumped, pumped_step, pumped_run}
use Rattle.rules.specs.Calls.{step_answer, step_next, run_outcome}
use Rattle.rules.specs.Turn.{Turn, Obeys, east_west, north_south, swap_axes}
use Rattle.promises.specs.Turning.{Lawful}
use Rattle.promises.specs.TurnedRuns.{obeys}
use Rattle.promises.specs.Demand3.{TurnsTheRun, turns_the_run, TurnsTheCall, turns_the_call}
use Rattle.promises.specs.TakenTwice.{GivesBack}
use Rattle.promises.specs.EastWest as EastWest
use Rattle.promises.specs.NorthSouth as NorthSouth
use Rattle.promises.specs.SwapAxes as SwapAxes
use Rattle.promises.specs.TheCall.{call_runs, call_steps, call_leaves}
use Rattle.promises.specs.OneStep.{IsTheStep}
use Rattle.promises.proofs.OneStep.{is_the_step}
use Rattle.promises.specs.NeverInTheMiddle.{keeps, Ends, ends}
use Rattle.promises.specs.StepsWanted.{wanting}
use Rattle.promises.specs.SiteSlices.{runs_joined}
use Rattle.promises.proofs.SiteSlices.{site_in_slices}
-- of each public call: any two outcomes that its contract allows are equal, refused calls too
pub use Rattle.promises.specs.OneOutcome.{one_step, one_run, one_search, one_row_search, one_reading, one_writing, one_text, one_staff, one_kind, one_raster_reading, one_raster_writing}
-- and a refused call leaves every list as it was lent
pub use Rattle.promises.specs.Refused.{step_refused, run_refused, scratch_zero, search_refused, no_count, read_refused, write_refused, raster_read_refused, raster_write_refused}
-- the depth text's part is empty, and its scratch as lent, exactly if the height is out of range or the scratch is shorter than the text
pub use Rattle.promises.specs.Texts.{text_refused, text_refused_only}
-- of the sheet: write, then read, gives the site back; read, then write, gives the bytes back; each site has one sheet
pub use Rattle.promises.specs.Sheets.{written_reads, read_is_sheet, one_site, one_sheet}
pub use Rattle.promises.specs.RoundTrips.{write_then_read_lem, not_written, read_then_write_lem, not_read}
-- the search's list is sound, complete and rising, and as long as lent; at 8 the count is the count needed; every chamber is compared exactly;
-- a window turned over lists nothing; -0.0 is 0
pub use Rattle.promises.specs.Searches.{finds, as_long_as_lent, count_at_8, inside_exactly, compared_exactly, lists_nothing, minus_zero_answer, minus_zero_list}
-- of document 02's [9], a face that counts only in the cell that its velocity points out of, in calls that are lent no pumps: a step which document 01's own limit
-- accepted is accepted with the same next state, a run which it did not stop is the same run, no answer but 4 changed, nor any number but 4, whatever rule gives
-- the new velocities; and, on numbers, what that limit accepted and refused
pub use Rattle.promises.proofs.NothingLost.{step_stays, run_stays, number_stays_by, number_stays, answer_stays, was_accepted, was_refused}
-- of document 02's [7], that refusal 6 has no input: no own share is negative where the step limit is kept; a step's number, its answer and a run with document
-- 01's look for 6 are those without it; neither the step nor the run ever answers 6
pub use Rattle.promises.proofs.NoNegativeShare.{no_negative_share, number_without_6, run_without_6, answer_without_6, step_never_6, run_never_6}
-- of document 02's [8], that no water is made and none is lost: the sum of all heights after a step without pumps, and after such a run whatever its reason, is that
-- before; so of the public calls; and how great it can be
pub use Rattle.promises.proofs.WaterKept.{next_sum_by, next_sum, run_sum, sum_of_the_step, sum_of_the_run, sum_fits}
-- and that what is carried stays between what came: the balance of each inner face; the bounds of the carried part of its new velocity, and that this velocity is
-- that part less the slope, or 0 without water and on a dry bank; who does not count, walls, and what lies beyond them; and, on numbers, bounds that are met
pub use Rattle.promises.proofs.WhatCame.{balance, carried_between, slope_put_back, brought_nothing, walls_are_0, no_flow_beyond, bounds_on_numbers}
-- of document 02's [2], that still water stays (`still_water`, AtRest.antt): all velocities 0, neighbouring wet cells of one surface, each dry cell's ground at or
-- above its wet neighbours' surface. The step is accepted and leaves the state as it is, the run does all the steps wanted; so of the public calls that are lent no pumps;
-- and, on numbers, a pond with a shore that lies still, and by how little it moves
pub use Rattle.promises.proofs.StillWater.{still_water_lem, still_of_the_step, still_of_the_run}
pub use Rattle.promises.specs.Pond.{pond_on_numbers}
-- of document 02's [5], the textbook engine beside the first one: the division of its two terms by H' leaves no rest; both give every face the same new velocity,
-- 0 on a dry bank, so that what is promised of the one is promised of the other; every answer and every list of the textbook call is the first engine's, for every
-- input, refused ones too
pub use Rattle.promises.specs.BothEngines.{leaves_no_rest, one_rule, banks_in_both, carries_over, same_answer, same_next, engines_agree}
-- of document 02's [10], pumps: end sum plus taken equals start sum plus added, of a step by either engine, of every run, and of the public calls
pub use Rattle.promises.proofs.WaterKept.{pumped_sum, run_balances, step_call_balances, run_call_balances}
-- and with an empty list the pumped step, the checks and the run are those without pumps, for every input: so [2]'s still water and [8]'s sum hold for it
pub use Rattle.promises.specs.NoPumps.{no_pumps_step, no_pumps_check, no_pumps_check_with, no_pumps_run}
-- of document 02's [1], staff readings: a height differs from its product by at most half a micrometre, is never below it by that, and is one that every other call
-- takes; a greater value of the same unit never gives a smaller height, and is not read where a smaller one is refused for its product; a refused reading has none
pub use Rattle.promises.proofs.Staffs.{metres_near, feet_near, metres_in_order, feet_in_order, staff_refused, kind_refused}
-- of document 02's [3], ground from the surveyor's raster: what we write we read back, columns, rows, side and ground, by the public calls
pub use Rattle.promises.specs.Rasters.{raster_reads_back}
-- and each value is exact: the number that its digits make, over ten for each digit behind the point, so that nothing is rounded; a minus makes it the negative; and
-- every decimal is spelled so
pub use Rattle.promises.specs.Rasters.{point_exact, digits_exact, minus_exact, plain_exact, decimal_spelled}
-- and of a read that is done: the ground has at each column and row the value that stands there in the text, the northern row first there and last here; columns, rows,
-- side and ground are in their ranges, so that no call refuses a card for them or this ground; no height is the no-data value; and columns, rows and side are the
-- text's own numbers
pub use Rattle.promises.specs.Rasters.{value_at, value_decimal, ground_fits_lem, never_no_data, columns_are, rows_are, side_is}
pub use Rattle.promises.proofs.Rasters.{ground_taken}

-- ---- Demand 3

-- the three turns of document 01
pub data OfDocument01 : Turn → Type 0 where
  east_for_west : OfDocument01 east_west
  north_for_south : OfDocument01 north_south
  swapped_axes : OfDocument01 swap_axes

lawful : {t : Turn} → OfDocument01 t → Lawful t
lawful east_for_west = EastWest.lawful
lawful north_for_south = NorthSouth.lawful
lawful swapped_axes = SwapAxes.lawful

-- the turned site's run, its pumps' cells turned and their order kept, is the run turned
pub demand3 : {t : Turn} → OfDocument01 t → Obeys t
demand3 {t} d = obeys t (lawful d)

-- the same, field by field: steps done, reason, top, added, taken, end state
pub demand3_by_field : {t : Turn} → OfDocument01 t → (c : Card) (g s ps : List ℤ) → check_pumped c g s ps ≡ 0 → TurnsTheRun t c g s ps
demand3_by_field {t} d = turns_the_run t (lawful d)

-- and so of the public call: each site lent a scratch list as long as its state, the turned call has the same tally and leaves the state turned
pub demand3_of_the_call : {t : Turn} → OfDocument01 t → (c : Card) (g s ps scratch turned_scratch : List ℤ) → check_pumped c g s ps ≡ 0
    → length scratch ≡ length s → length turned_scratch ≡ length (t.state c s)
    → TurnsTheCall t c g s ps scratch turned_scratch
demand3_of_the_call {t} d = turns_the_call t (lawful d)

-- a turn taken twice gives the site back
pub taken_twice : {t : Turn} → OfDocument01 t → GivesBack t
taken_twice east_for_west = EastWest.gives_back
taken_twice north_for_south = NorthSouth.gives_back
taken_twice swapped_axes = SwapAxes.gives_back

-- ---- The step and the run, and so the public calls

-- lent a next state as long as its state, the call's number is the first three checks', and else the pumped step's own
pub the_call_steps : (c : Card) (g s ps next : List ℤ) → length next ≡ length s → step_answer c g s ps next ≡ first_refusal (check_pumped c g s ps) ((pumped_step c g ps).number s)
the_call_steps = call_steps

-- and where that number is 0, the call leaves the next state
pub the_call_leaves : (c : Card) (g s ps next : List ℤ) → step_answer c g s ps next ≡ 0 → step_next c g s ps next ≡ (pumped_step c g ps).next s
the_call_leaves = call_leaves

-- lent a scratch list as long as its state, the call's outcome is the run
pub the_call_runs : (c : Card) (g s ps scratch : List ℤ) → length scratch ≡ length s → run_outcome c g s ps scratch ≡ pumped_run c g s ps
the_call_runs = call_runs

-- a run that wants 1 step is the step, for every input, where scratch is as long as the list for the next state: its reason is the step's number;
-- 0 leaves the step's next state after 1 step, with what its pumps added and took, and else the state is as it was after none
pub one_step_runs : (c : Card) (g s ps next scratch : List ℤ) → c.steps ≡ 1 → length next ≡ length scratch → IsTheStep c g s ps next scratch
one_step_runs = is_the_step

-- a site that passes the first three checks still passes them, with its pumps, after an accepted pumped step
pub still_passes : (c : Card) (g s ps : List ℤ) → check_pumped c g s ps ≡ 0 → (pumped_step c g ps).number s ≡ 0 → check_pumped c g ((pumped_step c g ps).next s) ps ≡ 0
still_passes = keeps

-- so a run never meets 1 to 3 in its middle, and its steps and reason agree
pub never_in_the_middle : (c : Card) (g s ps : List ℤ) → check_pumped c g s ps ≡ 0 → Ends c g ps c.steps (pumped_run c g s ps)
never_in_the_middle = ends

-- a run of m + n steps is a run of m steps and then one of n from where it ended, the totals added up
pub slices : (c : Card) (g s ps : List ℤ) (m n : ℕ) → check_pumped (wanting c (m + n)) g s ps ≡ 0
    → pumped_run (wanting c (m + n)) g s ps ≡ runs_joined (pumped_run (wanting c m) g s ps) (λ v. pumped_run (wanting c n) g v ps)
slices = site_in_slices
