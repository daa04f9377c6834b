-- Why what specs/NothingLost.antt says holds.
use Rattle.std.specs.Prelude.{ℕ, suc, ◌≡◌, refl, Bool, true, false, List, [], ℤ, pos, length, T}
use Rattle.std.proofs.Common.{sym, ap, ◌∙◌, le_trans, add-le-add, mul-le-mul_right, mul-le-mul_left, arith, leb→le, le→leb}
use Rattle.rules.specs.declared.Card.{Card}
use Rattle.rules.specs.Grid.{all, all_at}
use Rattle.rules.specs.Site.{Water, check, first_refusal, read_state}
use Rattle.rules.specs.Step.{Rule, within_limit, new_velocity, limit_kept, answer, number, step_number_by, step_number}
use Rattle.rules.specs.Run.{Stepping, run_from, site_step, run}
use Rattle.rules.specs.Pumps.{check_pumped_with, pumped_step}
use Rattle.rules.specs.Calls.{step_answer, run_outcome, step_answer_by}
use Rattle.rules.specs.Starred.{one_row, flat, two, passing, through}
use Rattle.laws.specs.Grids.{all_at_at, all_at_intro}
use Rattle.laws.specs.Outward.{forward_size, backward_size}
use Rattle.laws.specs.PumpChecks.{check_alone, checked_of_with}
use Rattle.laws.specs.Outcomes.{first_passed, first_same}
use Rattle.laws.specs.Keeps.{keeps}
use Rattle.laws.specs.Runs.{begun}
use Rattle.laws.specs.Follows.{Follows, follows}
use Rattle.promises.specs.NoPumps.{unpumped, no_pumps_step, no_pumps_check, no_pumps_run}
use Rattle.promises.specs.TheCall.{call_steps, call_leaves, call_runs}
use Rattle.promises.specs.NoNegativeShare.{answer_with6}
use Rattle.promises.proofs.NoNegativeShare.{passed_over, shares_fit_lem}
use Rattle.promises.specs.NothingLost.{StillAccepted, within_old_limit, old_limit_kept, old_number_by, old_number, old_step}

-- ---- Why

-- a cell that kept the old limit keeps the new one
cell_keeps : (c : Card) (w : Water) (i j : ℕ) → T (within_old_limit c w i j) → T (within_limit c w i j)
unfolding within_old_limit within_limit
cell_keeps c w i j t =
    le→leb _ _
    (le_trans
    (mul-le-mul_left c.dt
    (add-le-add
    (mul-le-mul_right c.dy (add-le-add (backward_size (w.east i j)) (forward_size (w.east (suc i) j))))
    (mul-le-mul_right c.dx (add-le-add (backward_size (w.north i j)) (forward_size (w.north i (suc j)))))))
    (leb→le _ _ t))

site_keeps : (c : Card) (w : Water) → T (old_limit_kept c w) → T (limit_kept c w)
unfolding old_limit_kept limit_kept
site_keeps c w t = all_at_intro c.columns c.rows (within_limit c w) (λ i j hi hj. cell_keeps c w i j (all_at_at c.columns c.rows (within_old_limit c w) t i j hi hj))

-- so that the answer changes only where it was 4
answer_same : (old new h s v : Bool) → (T old → T new) → (new ≡ true → s ≡ true) → (answer_with6 old h s v ≡ 4 → ⊥) → answer new h v ≡ answer_with6 old h s v
unfolding answer_with6
answer_same false new h s v f k n = absurd (n refl)
answer_same true true h s v f k n = sym (passed_over true h s v k)
answer_same true false h s v f k n = absurd (f tt)

pub number_stays_by : (rule : Rule) (c : Card) (g s : List ℤ) → check c g s ≡ 0 → (old_number_by rule c g s ≡ 4 → ⊥) → step_number_by rule c g s ≡ old_number_by rule c g s
unfolding old_number_by step_number_by number
number_stays_by rule c g s e = answer_same (old_limit_kept c (read_state c s)) (limit_kept c (read_state c s)) _ _ _ (site_keeps c (read_state c s)) (shares_fit_lem c g s e)

pub number_stays : (c : Card) (g s : List ℤ) → check c g s ≡ 0 → (old_number c g s ≡ 4 → ⊥) → step_number c g s ≡ old_number c g s
unfolding old_number
number_stays = number_stays_by new_velocity

-- a step that was done was not refused by 4
not_four : {k : ℕ} → k ≡ 0 → k ≡ 4 → ⊥
not_four z e = omega arith

was_done : (c : Card) (g s : List ℤ) → check c g s ≡ 0 → old_number c g s ≡ 0 → step_number c g s ≡ 0
was_done c g s e z = number_stays c g s e (not_four z) ∙ z

-- the step follows the old one, of every number but 4
follows_old : (c : Card) (g : List ℤ) → Follows (λ s. check c g s ≡ 0) (λ k. k ≡ 4 → ⊥) (λ s. s) (old_step c g) (site_step c g)
follows_old c g = record {
  kept = λ s p e. keeps c g s p (was_done c g s p e);
  done = not_four refl;
  numbers = number_stays c g;
  states = λ s p e. refl;
  peaks = λ s p. refl;
}

-- ---- The theorems

-- of the call, for every input without pumps, which document 01 did not know
pub answer_stays : (c : Card) (g s next : List ℤ) → (first_refusal (check_pumped_with c g s [] (length next)) (old_number c g s) ≡ 4 → ⊥)
    → step_answer c g s [] next ≡ first_refusal (check_pumped_with c g s [] (length next)) (old_number c g s)
unfolding step_answer_by
answer_stays c g s next n =
    let k = check_pumped_with c g s [] (length next) in
    ap (λ (x : Stepping). first_refusal k (x.number s)) (no_pumps_step new_velocity c g)
    ∙ first_same k (λ z. number_stays c g s (check_alone c g s [] (checked_of_with c g s [] next z)) (λ f. n (first_passed k (old_number c g s) z ∙ f)))

pub step_stays : (c : Card) (g s next : List ℤ) → check c g s ≡ 0 → length next ≡ length s → old_number c g s ≡ 0 → StillAccepted c g s next
unfolding first_refusal
step_stays c g s next e l z =
    let same = no_pumps_step new_velocity c g in
    let n : (pumped_step c g []).number s ≡ 0 = ap (λ (x : Stepping). x.number s) same ∙ was_done c g s e z in
    let a : step_answer c g s [] next ≡ 0 = call_steps c g s [] next l ∙ rw (no_pumps_check c g s, e, n) in
    record { number = a; state = call_leaves c g s [] next a ∙ ap (λ (x : Stepping). x.next s) same }

pub run_stays : (c : Card) (g s scratch : List ℤ) → check c g s ≡ 0 → length scratch ≡ length s → ((run_from (old_step c g) c.steps s).progress.reason ≡ 4 → ⊥)
    → run_outcome c g s [] scratch ≡ unpumped (run_from (old_step c g) c.steps s)
unfolding run
run_stays c g s scratch e l h =
    call_runs c g s [] scratch l ∙ no_pumps_run c g s ∙ ap unpumped (begun (site_step c g) c.steps s (check c g s) e ∙ follows (follows_old c g) c.steps s e h)

-- ---- On numbers of `Starred`: the old limit stood just as much where one face moves, and refused the 3×1 site with both inner faces at 6,000,000

pub was_accepted : old_limit_kept (one_row 2) (read_state (one_row 2) (two (pos 2000000) (pos 1000000) (pos 10000000))) ≡ true
unfolding one_row flat two all all_at read_state within_old_limit old_limit_kept
was_accepted = refl

pub was_refused : old_number (one_row 3) (flat 3) through ≡ 4
unfolding one_row flat passing through all all_at read_state within_old_limit old_limit_kept old_number_by old_number answer_with6
was_refused = refl
