-- A step that counts along what pumps add and take: its run is the run, and what it counted is what was added and taken over the run's history.
use Prim.Native.Nat.{ℕ, zero, suc, ◌+◌, ◌<◌, suc-le-suc, zero-le}
use Rattle.std.specs.Prelude.{◌≡◌, ℤ}
use Rattle.std.proofs.Math.Path.{refl, sym, ap}
use Rattle.std.proofs.Common.{◌∙◌, add-zero, zero-add}
use mathlib.Core.List.{List, [], ◌∷◌}
use Rattle.std.proofs.Math.Nat.{ne_of_gt}
use native.Mathlib.Omega.{arith}
use Rattle.rules.specs.Run.{Progress, SteppingOf, OutcomeOf, Stepping, Outcome, started, stopped_for, run_on, run_from, history}
use Rattle.rules.specs.Pumps.{added_by, taken_by, added_over, taken_over, PumpedOutcome, tally_of, reported}
use Rattle.laws.specs.Outcomes.{if_done_lem, if_refused}
use Rattle.laws.specs.Runs.{further, finished, gone_on, stopped}
use Rattle.laws.specs.Follows.{Follows}

-- a state, and what was added and taken on the way to it
pub record Counted : Type 0 where
  pub state : List ℤ
  pub added : ℕ
  pub taken : ℕ

-- before the first step
abbrev pub uncounted : (state : List ℤ) → Counted
uncounted s = record { state = s; added = 0; taken = 0 }

-- how its run is reported
abbrev pub told : OutcomeOf Counted → PumpedOutcome
told o = record { tally = tally_of o.progress o.state.added o.state.taken; state = o.state.state }

module _ (ps : List ℤ) (step : Stepping) where
  abbrev pub counting : SteppingOf Counted
  counting = record {
    number = λ x. step.number x.state;
    next = λ x. record { state = step.next x.state; added = x.added + added_by ps; taken = x.taken + taken_by ps x.state };
    peak = λ x. step.peak x.state;
  }

  -- an outcome of the step, as one that counts: so much before, and the totals of a history
  abbrev with_totals : Counted → List (List ℤ) → Outcome → OutcomeOf Counted
  with_totals x h o = record { progress = o.progress; state = record { state = o.state; added = x.added + added_over ps h; taken = x.taken + taken_over ps h } }

  nothing_more : (t : Progress) (x : Counted) → record { progress = t; state = x } ≡ with_totals x [] (record { progress = t; state = x.state })
  unfolding added_over taken_over
  nothing_more t x = λ i. record { progress = t; state = record { state = x.state; added = sym (add-zero x.added) i; taken = sym (add-zero x.taken) i } }

  one_before : (x : Counted) (h : List (List ℤ)) (o : Outcome) → with_totals (counting.next x) h o ≡ with_totals x (x.state ∷ h) o
  unfolding added_over taken_over
  one_before x h o =
      let a : x.added + added_by ps + added_over ps h ≡ x.added + (added_by ps + added_over ps h) = omega arith in
      let k : x.taken + taken_by ps x.state + taken_over ps h ≡ x.taken + (taken_by ps x.state + taken_over ps h) = omega arith in
      λ i. record { progress = o.progress; state = record { state = o.state; added = a i; taken = k i } }

  counted_on : (n : ℕ) (t : Progress) (x : Counted) → run_on counting n t x ≡ with_totals x (history step n x.state) (run_on step n t x.state)
  unfolding history
  counted_on zero t x = finished counting t x ∙ nothing_more t x ∙ ap (with_totals x []) (sym (finished step t x.state))
  counted_on (suc n) t x = go (step.number x.state) refl (counted_on n (further step t x.state) (counting.next x))
    where
      go : (k : ℕ) → step.number x.state ≡ k
          → run_on counting n (further step t x.state) (counting.next x) ≡ with_totals (counting.next x) (history step n (step.next x.state)) (run_on step n (further step t x.state) (step.next x.state))
          → run_on counting (suc n) t x ≡ with_totals x (history step (suc n) x.state) (run_on step (suc n) t x.state)
      go zero e ih =
          gone_on counting n t x e
          ∙ ih
          ∙ one_before x (history step n (step.next x.state)) (run_on step n (further step t x.state) (step.next x.state))
          ∙ sym (λ i. with_totals x (if_done_lem (step.number x.state) (x.state ∷ history step n (step.next x.state)) [] e i) (gone_on step n t x.state e i))
      go (suc r) e ih =
          let z : 0 < suc r = suc-le-suc zero-le in
          stopped counting n t x (suc r) z e
          ∙ nothing_more (stopped_for t (suc r)) x
          ∙ sym (λ i. with_totals x (if_refused (step.number x.state) (x.state ∷ history step n (step.next x.state)) [] (λ q. ne_of_gt z (sym e ∙ q)) i) (stopped step n t x.state (suc r) z e i))

  pub counted : (n : ℕ) (s : List ℤ) → reported ps (history step n s) (run_from step n s) ≡ told (run_from counting n (uncounted s))
  unfolding reported run_from
  counted n s =
      let o = run_on step n (started (step.peak s)) s in
      let h = history step n s in
      sym
      (ap told (counted_on n (started (step.peak s)) (uncounted s))
      ∙ λ i. record { tally = tally_of o.progress (zero-add (added_over ps h) i) (zero-add (taken_over ps h) i); state = o.state })

-- where a step follows another under a map of states, and as much is added and taken, so does the one that counts follow the other
abbrev pub map_counted : (List ℤ → List ℤ) → Counted → Counted
map_counted f x = record { state = f x.state; added = x.added; taken = x.taken }

pub counting_follows : {Passes : List ℤ → Type 0} {Shared : ℕ → Type 0} {f : List ℤ → List ℤ} {step other : Stepping} (ps qs : List ℤ)
    → Follows Passes Shared f step other → added_by qs ≡ added_by ps → ((s : List ℤ) → Passes s → step.number s ≡ 0 → taken_by qs (f s) ≡ taken_by ps s)
    → Follows (λ x. Passes x.state) Shared (map_counted f) (counting ps step) (counting qs other)
counting_follows ps qs 𝓕 a k = record {
  kept = λ x p e. 𝓕.kept x.state p e;
  done = 𝓕.done;
  numbers = λ x p h. 𝓕.numbers x.state p h;
  states = λ x p e. λ i. record { state = 𝓕.states x.state p e i; added = x.added + a i; taken = x.taken + k x.state p e i };
  peaks = λ x p. 𝓕.peaks x.state p;
}
