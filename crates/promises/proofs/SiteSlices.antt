-- Why what specs/SiteSlices.antt says holds.
use Prim.Native.Nat.{ℕ, zero, suc, ◌+◌, ◌≤◌}
use Rattle.std.specs.Prelude.{◌≡◌, List, ℤ}
use Rattle.std.proofs.Math.Path.{refl, ap}
use Rattle.std.proofs.Common.{sym, ◌∙◌, add-zero, arith}
use Rattle.rules.specs.declared.Card.{Card}
use Rattle.rules.specs.Run.{OutcomeOf, Stepping, run_from}
use Rattle.rules.specs.Pumps.{check_pumped, added_by, taken_by, pumped_step, PumpedOutcome, pumped_run}
use Rattle.laws.specs.Facts.{sound_facts}
use Rattle.laws.specs.Follows.{Follows, Always, follows, mapped}
use Rattle.laws.specs.PumpChecks.{checked}
use Rattle.laws.specs.Counting.{Counted, uncounted, told, counting}
use Rattle.laws.specs.PumpedSteps.{pumped-run}
use Rattle.promises.specs.StepsWanted.{wanting, same_pumped_step, same_pumped_check}
use Rattle.promises.specs.NeverInTheMiddle.{ends}
use Rattle.promises.specs.Slices.{both_runs, joined_after, joined}
use Rattle.promises.proofs.Slices.{in_slices}
use Rattle.promises.specs.SiteSlices.{both_tallies, runs_joined, runs_joined_after}

-- ---- a run that counts from more than 0 is the run that counts from 0, with that in front

abbrev ahead : Counted → Counted → Counted
ahead x y = record { state = y.state; added = x.added + y.added; taken = x.taken + y.taken }

module _ (ps : List ℤ) (step : Stepping) (x : Counted) where
  counts_ahead : Follows (λ y. Unit {0}) Always (ahead x) (counting ps step) (counting ps step)
  counts_ahead = record {
    kept = λ y p e. tt;
    done = tt;
    numbers = λ y p u. refl;
    states = λ y p e.
        let a : x.added + y.added + added_by ps ≡ x.added + (y.added + added_by ps) = omega arith in
        let k : x.taken + y.taken + taken_by ps y.state ≡ x.taken + (y.taken + taken_by ps y.state) = omega arith in
        λ i. record { state = step.next y.state; added = a i; taken = k i };
    peaks = λ y p. refl;
  }

  from_0 : x ≡ ahead x (uncounted x.state)
  from_0 = λ i. record { state = x.state; added = sym (add-zero x.added) i; taken = sym (add-zero x.taken) i }

  pub counts_on : (n : ℕ) → run_from (counting ps step) n x ≡ mapped (ahead x) (run_from (counting ps step) n (uncounted x.state))
  counts_on n = ap (run_from (counting ps step) n) from_0 ∙ follows counts_ahead n (uncounted x.state) tt tt

-- ---- so two slices, as they are told

module _ (ps : List ℤ) (step : Stepping) (n : ℕ) (second : List ℤ → PumpedOutcome) where
  told_joined : (o : OutcomeOf Counted) → second o.state.state ≡ told (run_from (counting ps step) n (uncounted o.state.state))
      → told (joined o (run_from (counting ps step) n)) ≡ runs_joined (told o) second
  unfolding joined joined_after both_runs runs_joined runs_joined_after both_tallies
  told_joined o e = go o.progress.reason
    where
      go : (r : ℕ) → told (joined_after r o (run_from (counting ps step) n)) ≡ runs_joined_after r (told o) second
      go zero =
          ap (λ (w : OutcomeOf Counted). told (both_runs o.progress w)) (counts_on ps step o.state n)
          ∙ ap (λ (w : PumpedOutcome). record { tally = both_tallies (told o).tally w.tally; state = w.state }) (sym e)
      go (suc r) = refl

module _ (c : Card) (g s ps : List ℤ) (m n : ℕ) where
  -- the whole run's step
  abbrev step : Stepping
  step = pumped_step (wanting c (m + n)) g ps

  -- a run that wants k steps, by that step
  as_part : (k : ℕ) (v : List ℤ) → check_pumped (wanting c k) g v ps ≡ 0 → pumped_run (wanting c k) g v ps ≡ told (run_from (counting ps step) k (uncounted v))
  unfolding pumped_run
  as_part k v e =
      pumped-run (wanting c k) g v ps (check_pumped (wanting c k) g v ps) e
      ∙ ap (λ (x : Stepping). told (run_from (counting ps x) k (uncounted v))) (same_pumped_step c k (m + n) g ps)

  pub site_in_slices : check_pumped (wanting c (m + n)) g s ps ≡ 0
      → pumped_run (wanting c (m + n)) g s ps ≡ runs_joined (pumped_run (wanting c m) g s ps) (λ v. pumped_run (wanting c n) g v ps)
  site_in_slices e =
      let most : m + n ≤ 10000 = (sound_facts (wanting c (m + n)) g s (checked (wanting c (m + n)) g s ps e).sound).card.steps_high in
      let second : List ℤ → PumpedOutcome = λ v. pumped_run (wanting c n) g v ps in
      let first = pumped_run (wanting c m) g s ps in
      let passes : check_pumped (wanting c m) g s ps ≡ 0 = same_pumped_check c (m + n) m g s ps e (omega arith) in
      let still : check_pumped (wanting c n) g first.state ps ≡ 0 = same_pumped_check c m n g first.state ps (ends (wanting c m) g s ps passes).passes (omega arith) in
      let p = as_part m s passes in
      as_part (m + n) s e
      ∙ ap told (in_slices (counting ps step) m n (uncounted s))
      ∙ told_joined ps step n second (run_from (counting ps step) m (uncounted s)) (ap (λ (o : PumpedOutcome). second o.state) (sym p) ∙ as_part n first.state still ∙ ap (λ (o : PumpedOutcome). told (run_from (counting ps step) n (uncounted o.state))) p)
      ∙ ap (λ (o : PumpedOutcome). runs_joined o second) (sym p)
