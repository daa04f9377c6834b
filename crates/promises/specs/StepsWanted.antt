-- A step does not look at the number of steps wanted: a card that wants another number has the same next states, numbers and greatest heights.
use Rattle.std.specs.Prelude.{ℕ, ◌≤◌, ◌≡◌, refl, ◌&&◌, List, ℤ, T, leb}
use Rattle.std.proofs.Common.{le→leb}
use Rattle.rules.specs.declared.Card.{Card}
use Rattle.rules.specs.Site.{state_length, read_ground, read_state, write_state, within, sizes_fit, sides_fit, times_fit, card_fits, lengths_fit, grounds_fit, heights_fit, velocities_fit, walls_still, values_fit, check}
use Rattle.rules.specs.Step.{east_transfer, north_transfer, new_height, east_face, north_face, new_east, new_north, next, within_limit, limit_kept, new_heights_fit, new_velocities_fit, number, step_number_by, next_state_by}
use Rattle.rules.specs.Run.{peak}
use Rattle.rules.specs.Pumps.{pump_fits, pumps_fit, pumped_number, pumped_step, check_pumped}
use Rattle.laws.specs.Tests.{true_of, to_T, and_both, and_left, three_of}
use Rattle.laws.specs.Facts.{check_sound, sound_check}
use Rattle.laws.specs.PumpChecks.{checked, to_checked}

-- the card, with n steps wanted
abbrev pub wanting : Card → ℕ → Card
wanting c n = record { columns = c.columns; rows = c.rows; dx = c.dx; dy = c.dy; dt = c.dt; steps = n }

-- so it is the same step
pub same_pumped_step : (c : Card) (a b : ℕ) (g ps : List ℤ) → pumped_step (wanting c a) g ps ≡ pumped_step (wanting c b) g ps
unfolding pumped_number peak step_number_by next_state_by number next limit_kept within_limit new_heights_fit new_height new_velocities_fit new_east new_north east_face north_face east_transfer north_transfer read_ground read_state write_state
same_pumped_step c a b g ps = refl

module _ (c : Card) (a b : ℕ) (g s : List ℤ) where
  -- and any number in its range passes the checks where another did
  times_fit_lem : T (times_fit (wanting c a)) → b ≤ 10000 → T (times_fit (wanting c b))
  unfolding times_fit
  times_fit_lem t h = and_both (within 1 1000 c.dt) (leb b 10000) (and_left (within 1 1000 c.dt) (leb a 10000) t) (le→leb b 10000 h)

  same_check : check (wanting c a) g s ≡ 0 → b ≤ 10000 → check (wanting c b) g s ≡ 0
  unfolding card_fits sizes_fit sides_fit lengths_fit state_length values_fit grounds_fit heights_fit velocities_fit walls_still read_ground read_state
  same_check e h =
      let p = check_sound (wanting c a) g s e in
      let f = three_of (sizes_fit c) (sides_fit c) (times_fit (wanting c a)) (to_T p.card) in
      sound_check (wanting c b) g s (record {
        card = true_of _ (and_both (sizes_fit c && sides_fit c) (times_fit (wanting c b)) (and_both (sizes_fit c) (sides_fit c) f.one f.two) (times_fit_lem f.three h));
        lengths = p.lengths;
        values = p.values;
      })

  pub same_pumped_check : (ps : List ℤ) → check_pumped (wanting c a) g s ps ≡ 0 → b ≤ 10000 → check_pumped (wanting c b) g s ps ≡ 0
  unfolding pumps_fit pump_fits
  same_pumped_check ps e h =
      let p = checked (wanting c a) g s ps e in
      to_checked (wanting c b) g s ps (record {
        sound = check_sound (wanting c b) g s (same_check (sound_check (wanting c a) g s p.sound) h);
        pumps = record { few = p.pumps.few; whole = p.pumps.whole; fit = p.pumps.fit };
      })
