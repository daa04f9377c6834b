-- How a run ends, over any step: in a state that still passes, for a reason that is 0 or the number of a step, and with steps and reason that agree.
use Rattle.std.specs.Prelude.{ℕ, zero, suc, ◌+◌, ◌≤◌, ◌<◌, ◌≡◌}
use Rattle.std.proofs.Math.Path.{refl}
use Rattle.std.proofs.Common.{sym, subst, arith}
use Rattle.rules.specs.Run.{Progress, SteppingOf, OutcomeOf, started, accepted, stopped_for, run_on, run_from}
use Rattle.laws.specs.Runs.{Keeps, further, finished, by_step}

-- how a run ends that wants so many steps in all: its end state passes, its reason is 0 or the number of a step, and its steps and reason agree
pub record EndsAs {S : Type 0} (Passes : S → Type 0) (OfAStep : ℕ → Type 0) (wanted : ℕ) (o : OutcomeOf S) : Type 0 where
  pub passes : Passes o.state
  pub reason : OfAStep o.progress.reason
  pub not_more : o.progress.steps ≤ wanted
  pub all_of_them : o.progress.reason ≡ 0 → o.progress.steps ≡ wanted
  pub only_then : o.progress.steps ≡ wanted → o.progress.reason ≡ 0

-- what that asks of the step: an accepted one leads from a state that passes to one that passes, and every number that it has is the number of a step
pub record Proper {S : Type 0} (step : SteppingOf S) (Passes : S → Type 0) (OfAStep : ℕ → Type 0) : Type 0 where
  pub kept : Keeps step Passes
  pub numbers : (s : S) → OfAStep (step.number s)
  pub done : OfAStep 0

module _ {S : Type 0} {step : SteppingOf S} {Passes : S → Type 0} {OfAStep : ℕ → Type 0} (𝓟 : Proper step Passes OfAStep) (wanted : ℕ) where
  abbrev FromHere : ℕ → Type 0
  FromHere n = (t : Progress) (s : S) → t.steps + n ≡ wanted → t.reason ≡ 0 → Passes s → EndsAs Passes OfAStep wanted (run_on step n t s)

  stops : (n r : ℕ) (t : Progress) (s : S) → t.steps + suc n ≡ wanted → 0 < r → OfAStep r → Passes s
      → EndsAs Passes OfAStep wanted (record { progress = stopped_for t r; state = s })
  unfolding stopped_for
  stops n r t s w p k e = record {
    passes = e;
    reason = k;
    not_more = omega arith;
    all_of_them = λ z. omega arith;
    only_then = λ z. omega arith;
  }

  goes_on : (n : ℕ) → FromHere n → (t : Progress) (s : S) → t.steps + suc n ≡ wanted → t.reason ≡ 0 → Passes s → step.number s ≡ 0
      → EndsAs Passes OfAStep wanted (run_on step n (further step t s) (step.next s))
  unfolding accepted
  goes_on n ih t s w z e k = ih (further step t s) (step.next s) (omega arith) z (𝓟.kept s e k)

  ends_on : (n : ℕ) → FromHere n
  ends_on zero t s w z e =
      subst (EndsAs Passes OfAStep wanted) (sym (finished step t s)) (record {
        passes = e;
        reason = subst OfAStep (sym z) 𝓟.done;
        not_more = omega arith;
        all_of_them = λ r. omega arith;
        only_then = λ r. z;
      })
  ends_on (suc n) t s w z e =
      by_step step n t s (EndsAs Passes OfAStep wanted)
      (λ k. goes_on n (ends_on n) t s w z e k)
      (λ r p k. stops n r t s w p (subst OfAStep k (𝓟.numbers s)) e)

  pub ends_as : (s : S) → Passes s → EndsAs Passes OfAStep wanted (run_from step wanted s)
  unfolding run_from started
  ends_as s e = ends_on wanted (started (step.peak s)) s (omega arith) refl e
