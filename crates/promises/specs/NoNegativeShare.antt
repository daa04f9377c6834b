-- Document 02, [7]: refusal 6 has no input. Document 01 gave it to a negative own share, and looked for it behind 4 and 5. But where a site passes the first three
-- checks and each of its cells keeps the step limit, no own share is negative. (The limit is [9]'s; what keeps document 01's own keeps it too, NothingLost.antt.)
-- So a step's number with that look is its number without it, a run is the same run, and neither the step nor the run ever answers 6.
use Prim.Native.Nat.{ℕ}
use Rattle.std.specs.Prelude.{◌≡◌, Bool, true, false, List, ℤ, pos, length, T}
use Rattle.std.specs.Int.Signed.{le_z}
use Rattle.rules.specs.declared.Card.{Card}
use Rattle.rules.specs.Grid.{Field}
use Rattle.rules.specs.Site.{Water, read_ground, read_state}
use Rattle.rules.specs.Step.{Rule, east_face, north_face, own_share, new_velocity, limit_kept, new_heights_fit, new_velocities_fit, answer, number, step_number_by, next_state}
use Rattle.rules.specs.Run.{Stepping, peak}
use Rattle.rules.specs.Pumps.{pumping}
use Rattle.promises.specs.InnerFaces.{EveryInner, every_inner}

-- ---- Document 01's test for 6

-- whether the own share of the face east of cell (i, j), and of the face north of it, is 0 or more
abbrev pub east_share_fits : Card → Field → Water → ℕ → ℕ → Bool
east_share_fits c g w i j = le_z (pos 0) (own_share (east_face c g w i j))

abbrev pub north_share_fits : Card → Field → Water → ℕ → ℕ → Bool
north_share_fits c g w i j = le_z (pos 0) (own_share (north_face c g w i j))

-- of every inner face
unfoldable pub shares_fit : Card → Field → Water → Bool
shares_fit c g w = every_inner c (east_share_fits c g w) (north_share_fits c g w)

-- the step's number with it: the lowest of 4 to 7 that applies
unfoldable pub answer_with6 : (limit heights shares speeds : Bool) → ℕ
answer_with6 false h s v = 4
answer_with6 true false s v = 5
answer_with6 true true false v = 6
answer_with6 true true true false = 7
answer_with6 true true true true = 0

unfoldable pub number_with6 : Rule → Card → Field → Water → ℕ
number_with6 rule c g w = answer_with6 (limit_kept c w) (new_heights_fit c w) (shares_fit c g w) (new_velocities_fit rule c g w)

-- and the step that has this number
abbrev pub step_with6 : Card → (land : List ℤ) → Stepping
step_with6 c g = record { number = λ s. number_with6 new_velocity c (read_ground c g) (read_state c s); next = next_state c g; peak = peak c }

-- ---- What is promised

-- no own share is negative: neither of the face east of a cell nor of the face north of it, wherever there is one
abbrev pub NoneNegative : Card → Field → Water → Type 0
NoneNegative c g w = EveryInner c (λ i j. T (east_share_fits c g w i j)) (λ i j. T (north_share_fits c g w i j))

-- with pumps too: the step from the pumped state has the same number
abbrev pub pumped_step_with6 : Card → (land pumps : List ℤ) → Stepping
pumped_step_with6 c g ps = pumping c ps (step_with6 c g)
