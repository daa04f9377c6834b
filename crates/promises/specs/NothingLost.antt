-- Document 02, [9]: a face counts in a cell's step limit only if its velocity points out of that cell, and nothing is lost by it. Every step that document 01's
-- own limit accepted is accepted, with the same next state; so is every run of such steps. No answer but 4 changed. Document 01 knew no pumps, and so the calls
-- are those that are lent none. (What is said of the numbers holds by any rule for the new velocities, by document 01's without [2]'s banks too; the next state
-- asks for no limit.)
use Rattle.std.specs.Prelude.{ℕ, suc, ◌+◌, ◌*◌, ◌≡◌, Bool, List, [], ℤ, nat_abs, leb}
use Rattle.rules.specs.declared.Card.{Card}
use Rattle.rules.specs.Grid.{all_at}
use Rattle.rules.specs.Site.{Water, read_ground, read_state}
use Rattle.rules.specs.Step.{Rule, new_velocity, new_heights_fit, new_velocities_fit, number, next_state}
use Rattle.rules.specs.Run.{Stepping, peak}
use Rattle.rules.specs.Calls.{step_answer, step_next}
use Rattle.promises.specs.NoNegativeShare.{shares_fit, answer_with6}

-- ---- Document 01's limit, (18) as it stands: every face of a cell counts, whichever way its velocity points

unfoldable pub within_old_limit : Card → Water → ℕ → ℕ → Bool
within_old_limit c w i j =
    leb (c.dt * ((nat_abs (w.east i j) + nat_abs (w.east (suc i) j)) * c.dy + (nat_abs (w.north i j) + nat_abs (w.north i (suc j))) * c.dx))
    (1000 * (c.dx * c.dy))

unfoldable pub old_limit_kept : Card → Water → Bool
old_limit_kept c w = all_at c.columns c.rows (within_old_limit c w)

-- the step's number under it, with document 01's look for 6, and the step; the next state never asks for either
unfoldable pub old_number_by : Rule → Card → (land state : List ℤ) → ℕ
old_number_by rule c g s =
    answer_with6 (old_limit_kept c (read_state c s)) (new_heights_fit c (read_state c s)) (shares_fit c (read_ground c g) (read_state c s)) (new_velocities_fit rule c (read_ground c g) (read_state c s))

unfoldable pub old_number : Card → (land state : List ℤ) → ℕ
old_number = old_number_by new_velocity

abbrev pub old_step : Card → (land : List ℤ) → Stepping
old_step c g = record { number = old_number c g; next = next_state c g; peak = peak c }

-- ---- What is promised

-- a step that was accepted: the call's number is 0, and it leaves the next state
pub record StillAccepted (c : Card) (g s next : List ℤ) : Type 0 where
  pub number : step_answer c g s [] next ≡ 0
  pub state : step_next c g s [] next ≡ next_state c g s
