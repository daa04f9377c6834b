-- Why what specs/Slices.antt says holds.
use Prim.Native.Nat.{ℕ, zero, suc, ◌+◌, ◌<◌}
use Rattle.std.specs.Prelude.{◌≡◌, refl, ℤ, T}
use Rattle.std.proofs.Math.Path.{sym, ap}
use Rattle.std.proofs.Common.{◌∙◌, add-zero, zero-add, suc-add, not-suc-le-zero, arith}
use Rattle.std.specs.Int.Signed.{le_z}
use Rattle.rules.specs.Run.{Progress, SteppingOf, OutcomeOf, started, accepted, stopped_for, run_on, run_from}
use Rattle.laws.specs.Numbers.{le_z_refl}
use Rattle.laws.specs.Grids.{max_right}
use Rattle.laws.specs.Maxima.{max_absorbs, max_assoc}
use Rattle.laws.specs.Runs.{further, finished, gone_on, stopped, by_step}
use Rattle.promises.specs.Slices.{both_progresses, both_runs, joined, joined_after}

-- ---- what was done before is carried along

accepted_both : (a t : Progress) (h : ℤ) → accepted (both_progresses a t) h ≡ both_progresses a (accepted t h)
unfolding accepted both_progresses
accepted_both a t h =
    let steps : (accepted (both_progresses a t) h).steps ≡ (both_progresses a (accepted t h)).steps = omega arith in
    let top : (accepted (both_progresses a t) h).top ≡ (both_progresses a (accepted t h)).top = cc (max_assoc a.top t.top h) in
    λ x. record { steps = steps x; reason = (both_progresses a t).reason; top = top x }

carried_along : {S : Type 0} (step : SteppingOf S) (a : Progress) (n : ℕ) (t : Progress) (s : S) → run_on step n (both_progresses a t) s ≡ both_runs a (run_on step n t s)
unfolding both_runs both_progresses stopped_for
carried_along step a zero t s = finished step (both_progresses a t) s ∙ ap (both_runs a) (sym (finished step t s))
carried_along step a (suc n) t s =
    by_step step n t s (λ o. run_on step (suc n) (both_progresses a t) s ≡ both_runs a o)
    (λ e.
    gone_on step n (both_progresses a t) s e
    ∙ ap (λ (u : Progress). run_on step n u (step.next s)) (accepted_both a t (step.peak (step.next s)))
    ∙ carried_along step a n (further step t s) (step.next s))
    (λ r z e. stopped step n (both_progresses a t) s r z e)

-- ---- the second run, from where the first ended

-- a progress with reason 0 is itself, joined with that of a run which starts where it stands
rejoined : (t : Progress) (h : ℤ) → t.reason ≡ 0 → T (le_z h t.top) → both_progresses t (started h) ≡ t
unfolding both_progresses started
rejoined t h z l =
    let reason : (both_progresses t (started h)).reason ≡ t.reason = cc in
    λ x. record { steps = add-zero t.steps x; reason = reason x; top = max_absorbs t.top h l x }

no_second : {S : Type 0} (r : ℕ) → 0 < r → (first : OutcomeOf S) (second : S → OutcomeOf S) → joined_after r first second ≡ first
unfolding joined_after
no_second zero h first second = absurd (not-suc-le-zero h)
no_second (suc r) h first second = refl

module _ {S : Type 0} (step : SteppingOf S) (n : ℕ) where
  -- no step before it; the top is at least the greatest height that stands
  none_before : (t : Progress) (s : S) → t.reason ≡ 0 → T (le_z (step.peak s) t.top)
      → run_on step n t s ≡ joined (record { progress = t; state = s }) (run_from step n)
  unfolding joined joined_after run_from
  none_before t s z h =
      ap (λ (u : Progress). run_on step n u s) (sym (rejoined t (step.peak s) z h))
      ∙ carried_along step t n (started (step.peak s)) s
      ∙ ap (λ (r : ℕ). joined_after r (record { progress = t; state = s }) (run_from step n)) (sym z)

  -- m steps before it
  some_before : (m : ℕ) (t : Progress) (s : S) → t.reason ≡ 0 → T (le_z (step.peak s) t.top)
      → run_on step (m + n) t s ≡ joined (run_on step m t s) (run_from step n)
  unfolding joined accepted stopped_for
  some_before zero t s z h =
      ap (λ (k : ℕ). run_on step k t s) (zero-add n)
      ∙ none_before t s z h
      ∙ ap (λ (o : OutcomeOf S). joined o (run_from step n)) (sym (finished step t s))
  some_before (suc m) t s z h =
      ap (λ (k : ℕ). run_on step k t s) (suc-add m n)
      ∙ by_step step m t s (λ o. run_on step (suc (m + n)) t s ≡ joined o (run_from step n))
      (λ e.
      gone_on step (m + n) t s e
      ∙ some_before m (further step t s) (step.next s) z (max_right t.top (step.peak (step.next s))))
      (λ r p e. stopped step (m + n) t s r p e ∙ sym (no_second r p (record { progress = stopped_for t r; state = s }) (run_from step n)))

pub in_slices : {S : Type 0} (step : SteppingOf S) (m n : ℕ) (s : S) → run_from step (m + n) s ≡ joined (run_from step m s) (run_from step n)
unfolding run_from started
in_slices step m n s = some_before step n m (started (step.peak s)) s refl (le_z_refl (step.peak s))
