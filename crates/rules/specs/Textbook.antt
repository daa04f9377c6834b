-- Document 02, [5]: the textbook engine, for those who read beside the paper. The pressure term and the ground term of (7d) are kept apart, where the first
-- engine's S takes them together. Of an inner face between K and L, after the step:
--
--     p = ½ · g · h²                          (7c)           the pressure in a cell
--     p_l − p_k                                 (11)           its difference over the face: the pressure term of (7d)
--     g · ½ · (h_k + h_l) · (z_l − z_k)           (17), (11)     the mean height times the ground's difference: the ground term of (7d)
--     ½ · (h_k + h_l)                           (14)           the height in the face's own cell, by which (7d) is divided for its new velocity
--
-- Pressure, both terms and the height are doubled here, so that they stay whole; the height, doubled, is H'. The time step, g, and the side by which (11)
-- divides come in with S. All else of a step is the first engine's (Site.antt, Step.antt): checks, transfers, step limit, new heights, carried momentum,
-- dry banks, numbers.
use Rattle.std.specs.Prelude.{ℤ, ◌+ℤ◌, ◌-ℤ◌, ◌*ℤ◌}
use Rattle.std.specs.Int.Signed.{quot_z}
use Rattle.rules.specs.declared.Face.{Face}
use Rattle.rules.specs.Step.{Rule, new_sum, new_velocity_by}

-- (7c): twice the pressure that a height gives, without g
unfoldable pub pressure : (height : ℤ) → ℤ
pressure h = h *ℤ h

-- the pressure term of (7d), with (11)
unfoldable pub pressure_term : Face → ℤ
pressure_term f = pressure f.new_l -ℤ pressure f.new_k

-- (17): twice the mean height
abbrev pub mean_height : Face → ℤ
mean_height f = f.new_k +ℤ f.new_l

-- the ground term of (7d), with (17) and (11)
unfoldable pub ground_term : Face → ℤ
ground_term f = mean_height f *ℤ (f.ground_l -ℤ f.ground_k)

-- What S takes in the place of the first engine's rise: both terms, divided by H'. It is asked for only where H' is above 0, since without water a new velocity is 0.
-- (The division leaves no rest, and what comes out is the rise: `leaves_no_rest`, promises, BothEngines.antt; `textbook_rise_lem`, laws, Textbook.antt.)
unfoldable pub textbook_rise : Face → ℤ
textbook_rise f = quot_z (pressure_term f +ℤ ground_term f) (new_sum f)

-- Gravity, time step and side come in as in S, and the new velocity is 0 where the first engine's is: without water and on a dry bank.
abbrev pub textbook_velocity : Rule
textbook_velocity = new_velocity_by textbook_rise
