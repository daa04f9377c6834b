-- A step that follows another under a map of states, as a turned site's step follows the site's: then so do its runs. It may share
-- some numbers only, as a step does that refuses less: then so do the runs that end with one of those.
use Prim.Native.Nat.{ℕ, zero, suc}
use Rattle.std.specs.Prelude.{◌≡◌, ℤ}
use Rattle.std.proofs.Common.{sym, ◌∙◌, subst}
use Rattle.std.proofs.Math.Path.{ap}
use Rattle.rules.specs.Run.{Progress, SteppingOf, OutcomeOf, started, stopped_for, run_on, run_from}
use Rattle.laws.specs.Runs.{Keeps, further, finished, gone_on, stopped, by_step}

-- from a mapped state the other step has the same number, if that is one of `Shared`, the next state mapped, and the same greatest height; asked only of states
-- that pass what an accepted step keeps. Where the map leaves every state as it is, the two steps agree.
pub record Follows {S : Type 0} (Passes : S → Type 0) (Shared : ℕ → Type 0) (map : S → S) (step other : SteppingOf S) : Type 0 where
  pub kept : Keeps step Passes
  pub done : Shared 0
  pub numbers : (s : S) → Passes s → Shared (step.number s) → other.number (map s) ≡ step.number s
  pub states : (s : S) → Passes s → step.number s ≡ 0 → other.next (map s) ≡ map (step.next s)
  pub peaks : (s : S) → Passes s → other.peak (map s) ≡ step.peak s

-- every number
abbrev pub Always : ℕ → Type 0
Always k = Unit {0}

-- as far, and the end state mapped
abbrev pub mapped : {S : Type 0} → (S → S) → OutcomeOf S → OutcomeOf S
mapped map o = record { progress = o.progress; state = map o.state }

module _ {S : Type 0} {Passes : S → Type 0} {Shared : ℕ → Type 0} {map : S → S} {step other : SteppingOf S} (𝓕 : Follows Passes Shared map step other) where
  runs_on : (n : ℕ) (t : Progress) (s : S) → Passes s → Shared (run_on step n t s).progress.reason → run_on other n t (map s) ≡ mapped map (run_on step n t s)
  unfolding stopped_for
  runs_on zero t s p = λ h. finished other t (map s) ∙ ap (mapped map) (sym (finished step t s))
  runs_on (suc n) t s p =
      by_step step n t s (λ o. Shared o.progress.reason → run_on other (suc n) t (map s) ≡ mapped map o)
      (λ e h.
      let p' : Passes (step.next s) = 𝓕.kept s p e in
      gone_on other n t (map s) (𝓕.numbers s p (subst Shared (sym e) 𝓕.done) ∙ e)
      ∙ rw (𝓕.states s p e, 𝓕.peaks (step.next s) p') (runs_on n (further step t s) (step.next s) p' h))
      (λ r z e h. stopped other n t (map s) r z (𝓕.numbers s p (subst Shared (sym e) h) ∙ e))

  pub follows : (n : ℕ) (s : S) → Passes s → Shared (run_from step n s).progress.reason → run_from other n (map s) ≡ mapped map (run_from step n s)
  unfolding run_from
  follows n s p h = ap (λ (h : ℤ). run_on other n (started h) (map s)) (𝓕.peaks s p) ∙ runs_on n (started (step.peak s)) s p h
