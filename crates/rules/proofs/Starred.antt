-- The table of worked cases holds: each row by computation. (Its statement is specs/Starred.antt.)
use Rattle.std.specs.Prelude.{refl}
use Rattle.std.specs.Float.Ieee.{size, span, climb, odd, units, round, mul, of_int, of_fields, of_bits}
use Rattle.std.specs.Int.Count.{count_trailing_zeros}
use Rattle.rules.specs.Grid.{tabulate, grid, all, all_at, greatest, sum, sum_at}
use Rattle.rules.specs.Site.{read_ground, read_state, write_state, state_length, sum_of_heights, sizes_fit, sides_fit, times_fit, card_fits, lengths_fit, grounds_fit, heights_fit, velocities_fit, walls_still, values_fit, first_of, check_also, first_refusal, if_done}
use Rattle.rules.specs.Step.{walled, transfer, east_transfer, north_transfer, forward, backward, within_limit, new_height, after, before, east_face, north_face, out_ahead, out_behind, out_above, out_below, positive, own_share, brought, carried, rise, slope, is_bank, dry_bank, new_velocity_by, new_east, new_north, next, limit_kept, new_heights_fit, new_velocities_fit, answer, number, step_number_by, next_state_by}
use Rattle.rules.specs.Textbook.{pressure, pressure_term, ground_term, textbook_rise}
use Rattle.rules.specs.Run.{peak, started, accepted, stopped_for, run_on, run_from, history, run_after}
use Rattle.rules.specs.Pumps.{pump_at, few_pumps, whole_pumps, pump_fits, pumps_fit, check_pumped, check_pumped_with, adds, takes, height_after, after_pump, after_pumps, adds_up_to, takes_up_to, pumped, added_by, taken_by, turn_fits, inlets_fit, pumped_number, added_over, taken_over, reported, pumped_run_after, pumped_run}
use Rattle.rules.specs.Text.{digits_of, decimal, height_text, depth_text}
use Rattle.rules.specs.Staff.{product, value_fits, product_fits, nearest_whole, with_height, without_height, measured}
use Rattle.rules.specs.Calls.{step_answer_by, step_next_by, staff_answer, kind_answer}
use Rattle.rules.specs.Starred.{Starred, one_row, flat, two, passing, three, pond_ground, pond, pond_face, through, square, four, slow_row}
use Rattle.rules.specs.StarredRasters.{starred_rasters}

pub starred : Starred
unfolding one_row flat two passing three pond_ground pond pond_face through square four tabulate grid all all_at greatest sum sum_at read_ground read_state write_state state_length sum_of_heights sizes_fit sides_fit times_fit card_fits lengths_fit grounds_fit heights_fit velocities_fit walls_still values_fit first_of check_also first_refusal if_done walled transfer east_transfer north_transfer forward backward within_limit new_height after before east_face north_face out_ahead out_behind out_above out_below positive own_share brought carried rise slope is_bank dry_bank new_velocity_by new_east new_north next limit_kept new_heights_fit new_velocities_fit answer number step_number_by next_state_by pressure pressure_term ground_term textbook_rise digits_of decimal height_text depth_text step_answer_by step_next_by slow_row peak started accepted stopped_for run_on run_from history run_after pump_at few_pumps whole_pumps pump_fits pumps_fit check_pumped check_pumped_with adds takes height_after after_pump after_pumps adds_up_to takes_up_to pumped added_by taken_by turn_fits inlets_fit pumped_number added_over taken_over reported pumped_run_after pumped_run span climb size odd units round mul of_int of_fields of_bits count_trailing_zeros product value_fits product_fits nearest_whole with_height without_height measured staff_answer kind_answer
starred = record {
  first_step = (refl, refl, refl, refl);
  second_step = (refl, refl, refl, refl);
  emptied = (refl, refl, refl, refl);
  over_limit = (refl, refl, refl, refl);
  over_limit_west = (refl, refl, refl, refl);
  passed_through = (refl, refl, refl, refl);
  each_once = refl;
  one_crosses = refl;
  transfer_east = refl;
  transfer_west = refl;
  still_pond = (refl, refl, refl, refl);
  pressure_doubled = refl;
  pressure_in_the_pond = refl;
  ground_in_the_pond = refl;
  dry_bank_is = (refl, refl, refl, refl);
  bank_level = (refl, refl, refl, refl);
  bank_below = (refl, refl, refl, refl);
  bank_wet = (refl, refl, refl, refl);
  bank_emptied = (refl, refl, refl, refl);
  bank_stops = (refl, refl, refl, refl);
  bank_overrun = (refl, refl, refl, refl);
  pumped_dry = (refl, refl, refl, refl);
  inlet_first = (refl, refl, refl, refl);
  inlet_last = (refl, refl, refl, refl);
  to_the_top = (refl, refl, refl, refl);
  past_the_top = (refl, refl, refl, refl);
  limit_before_the_top = (refl, refl, refl, refl);
  sixty_four = refl;
  sixty_five = (refl, refl, refl, refl);
  left_over = (refl, refl, refl, refl);
  no_such_cell = (refl, refl, refl, refl);
  no_such_cell_below = (refl, refl, refl, refl);
  amount_too_great = (refl, refl, refl, refl);
  amount_too_small = (refl, refl, refl, refl);
  totals = refl;
  metres = refl;
  foot = refl;
  minus_zero_lem = refl;
  minus_zero_feet = refl;
  no_reading = refl;
  fifty_metres = refl;
  above_fifty_metres = refl;
  into_range_if_rounded = refl;
  fifty_metres_in_feet = refl;
  above_fifty_metres_in_feet = refl;
  half_up = refl;
  half_up_in_feet = refl;
  half_up_at_the_top = refl;
  half_a_micrometre = refl;
  less_than_half = refl;
  no_half_added = refl;
  smallest = refl;
  smallest_below = refl;
  overflows = refl;
  infinity = refl;
  infinity_below = refl;
  quiet_nan = refl;
  signalling_nan = refl;
  negative_nan = refl;
  kind_0 = refl;
  kind_1 = refl;
  kind_2 = refl;
  kind_3 = refl;
  text_0 = refl;
  text_9999 = refl;
  text_10000 = refl;
  text_15000 = refl;
  rasters = starred_rasters;
}
