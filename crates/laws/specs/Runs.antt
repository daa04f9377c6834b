-- The run over any step, a step at a time: gone on, stopped or finished; a run that stands; what a loop over its steps carries; and how a run begins.
use Prim.Native.Nat.{ℕ, zero, suc, ◌+◌, ◌-◌, ◌≤◌, ◌<◌, suc-le-suc, zero-le}
use Rattle.std.specs.Prelude.{◌≡◌, pos}
use Rattle.std.proofs.Math.Path.{refl, ap}
use Rattle.std.proofs.Common.{sym, ◌∙◌, subst, not-suc-le-zero}
use native.Mathlib.Omega.{arith}
use Rattle.std.specs.Int.Signed.{le_z}
use Rattle.rules.specs.Run.{Progress, SteppingOf, OutcomeOf, started, accepted, stopped_for, run_on, run_from, run_after}
use Rattle.laws.specs.Tests.{either_way}

module _ {S : Type 0} (step : SteppingOf S) where
  -- how far it came after one accepted step more, from the state s
  abbrev pub further : Progress → S → Progress
  further t s = accepted t (step.peak (step.next s))

  -- the step that the run takes next, given its number
  abbrev taken : ℕ → Progress → S → ℕ → OutcomeOf S
  taken n t s k =
      elim k as (λ x. OutcomeOf S) [
        | zero ↦ run_on step n (further t s) (step.next s)
        | suc k ↦ record { progress = stopped_for t (suc k); state = s }
      ]

  -- no step left
  pub finished : (t : Progress) (s : S) → run_on step 0 t s ≡ record { progress = t; state = s }
  unfolding run_on
  finished t s = refl

  -- a step that is accepted
  pub gone_on : (n : ℕ) (t : Progress) (s : S) → step.number s ≡ 0 → run_on step (suc n) t s ≡ run_on step n (further t s) (step.next s)
  unfolding run_on
  gone_on n t s e = ap (taken n t s) e

  -- a step that is refused, with r
  pub stopped : (n : ℕ) (t : Progress) (s : S) (r : ℕ) → 0 < r → step.number s ≡ r → run_on step (suc n) t s ≡ record { progress = stopped_for t r; state = s }
  unfolding run_on
  stopped n t s zero h e = absurd (not-suc-le-zero h)
  stopped n t s (suc r) h e = ap (taken n t s) e

  -- what holds of the run after an accepted step, and of one that is stopped, holds of the run
  pub by_step : (n : ℕ) (t : Progress) (s : S) (P : OutcomeOf S → Type 0)
      → (step.number s ≡ 0 → P (run_on step n (further t s) (step.next s)))
      → ((r : ℕ) → 0 < r → step.number s ≡ r → P (record { progress = stopped_for t r; state = s }))
      → P (run_on step (suc n) t s)
  by_step n t s P on off = go (step.number s) refl
    where
      go : (k : ℕ) → step.number s ≡ k → P (run_on step (suc n) t s)
      go zero e = subst P (sym (gone_on n t s e)) (on e)
      go (suc r) e = subst P (sym (stopped n t s (suc r) (suc-le-suc zero-le) e)) (off (suc r) (suc-le-suc zero-le) e)

-- ---- a step that is accepted and leads from a state to that state: a run stands there, and does all its steps
module _ {S : Type 0} (step : SteppingOf S) (s : S) (done : step.number s ≡ 0) (same : step.next s ≡ s) where
  -- how far it came after so many of them
  abbrev tallied : ℕ → Progress
  tallied k = record { steps = k; reason = 0; top = step.peak s }

  abbrev standing : ℕ → OutcomeOf S
  standing k = record { progress = tallied k; state = s }

  stands_on : (n k m : ℕ) → k + n ≡ m → run_on step n (tallied k) s ≡ standing m
  unfolding accepted
  stands_on zero k m e = let z : k ≡ m = omega arith in finished step (tallied k) s ∙ ap standing z
  stands_on (suc n) k m e =
      gone_on step n (tallied k) s done
      ∙ rw (same, either_way (le_z (step.peak s) (step.peak s)) (step.peak s)) (stands_on n (k + 1) m (omega arith))

  pub stands : (n : ℕ) → run_from step n s ≡ standing n
  unfolding run_from started
  stands n = stands_on n 0 n (omega arith)

-- what a state passes and an accepted step keeps
abbrev pub Keeps : {S : Type 0} → SteppingOf S → (Passes : S → Type 0) → Type 0
Keeps {S} step Passes = (s : S) → Passes s → step.number s ≡ 0 → Passes (step.next s)

-- ---- for a loop: after `done` of `wanted` steps the progress is t and the state s, and the steps that are left lead to the outcome o
pub record LeadsTo {S : Type 0} (step : SteppingOf S) (wanted done : ℕ) (t : Progress) (s : S) (o : OutcomeOf S) : Type 0 where
  pub leads : run_on step (wanted - done) t s ≡ o

one_less : (wanted done : ℕ) → done < wanted → wanted - done ≡ suc (wanted - (done + 1))
one_less wanted done h = omega arith

-- it begins so
pub leads_from : {S : Type 0} (step : SteppingOf S) (wanted : ℕ) (s : S) → LeadsTo step wanted 0 (started (step.peak s)) s (run_from step wanted s)
unfolding run_from
leads_from step wanted s = record { leads = ap (λ (n : ℕ). run_on step n (started (step.peak s)) s) (omega arith) }

module _ {S : Type 0} {step : SteppingOf S} {wanted done : ℕ} {t : Progress} {s : S} {o : OutcomeOf S} where
  pub leads_on : LeadsTo step wanted done t s o → done < wanted → step.number s ≡ 0 → LeadsTo step wanted (done + 1) (further step t s) (step.next s) o
  leads_on l h e = record { leads = sym (ap (λ (n : ℕ). run_on step n t s) (one_less wanted done h) ∙ gone_on step (wanted - (done + 1)) t s e) ∙ l.leads }

  pub leads_nowhere : LeadsTo step wanted done t s o → done < wanted → (r : ℕ) → 0 < r → step.number s ≡ r → record { progress = stopped_for t r; state = s } ≡ o
  leads_nowhere l h r z e = sym (ap (λ (n : ℕ). run_on step n t s) (one_less wanted done h) ∙ stopped step (wanted - (done + 1)) t s r z e) ∙ l.leads

  pub led : LeadsTo step wanted done t s o → wanted ≤ done → record { progress = t; state = s } ≡ o
  led l h =
      let e : wanted - done ≡ 0 = omega arith in
      sym (ap (λ (n : ℕ). run_on step n t s) e ∙ finished step t s) ∙ l.leads

-- ---- the run from the first three checks on, for any number k that they gave
module _ {S : Type 0} (step : SteppingOf S) (n : ℕ) (s : S) where
  pub begun : (k : ℕ) → k ≡ 0 → run_after k step n s ≡ run_from step n s
  unfolding run_after
  begun k e = ap (λ (k : ℕ). run_after k step n s) e

  pub refused_after : (k r : ℕ) → 0 < r → k ≡ r → run_after k step n s ≡ record { progress = record { steps = 0; reason = r; top = pos 0 }; state = s }
  unfolding run_after
  refused_after k zero h e = absurd (not-suc-le-zero h)
  refused_after k (suc r) h e = ap (λ (k : ℕ). run_after k step n s) e
