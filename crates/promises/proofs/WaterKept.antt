-- Why what specs/WaterKept.antt says holds.
use Prim.Native.Nat.{ℕ, zero, suc, ◌*◌, ◌≤◌}
use Rattle.std.specs.Prelude.{◌≡◌, ◌&&◌, ℤ, pos, ◌+ℤ◌, T, length}
use Rattle.std.proofs.Math.Path.{refl, ap}
use Rattle.std.proofs.Common.{sym, subst, ◌∙◌, suc-ne-zero, arith, le→leb}
use mathlib.Core.List.{List, []}
use Rattle.std.specs.Int.Signed.{le_z}
use Rattle.rules.specs.declared.Card.{Card}
use Rattle.rules.specs.Site.{cells, check, sum_of_heights, read_ground, read_state, height_fits, heights_fit}
use Rattle.rules.specs.Step.{Rule, new_velocity, next, next_state_by, next_state}
use Rattle.rules.specs.Run.{site_step, run_after, run}
use Rattle.rules.specs.Pumps.{after_pumps, pumped, added_by, taken_by, pumped_step_by, pumped_step, check_pumped, check_pumped_with, PumpedOutcome, pumped_run_after, pumped_run}
use Rattle.rules.specs.Calls.{step_answer, step_next, step_answer_by, step_next_by, run_outcome, run_tally, run_state}
use Rattle.rules.proofs.Sums.{sum_kept}
use Rattle.laws.specs.Tests.{and_both, and_left, and_right}
use Rattle.laws.specs.Numbers.{le_z_trans}
use Rattle.laws.specs.Grids.{all_at_at}
use Rattle.laws.specs.States.{height_back}
use Rattle.laws.specs.Outcomes.{both_passed, if_done_lem}
use Rattle.laws.specs.Facts.{Sound, card_facts, sound_facts, sound_depths, check_sound}
use Rattle.laws.specs.Between.{between}
use Rattle.laws.specs.Totals.{sum_at_same, sum_at_between}
use Rattle.laws.specs.Pumped.{Balanced, balanced_on, sum-pumped}
use Rattle.laws.specs.PumpChecks.{PumpsPass, SoundPumped, checked, checked_with}
use Rattle.laws.specs.Counting.{Counted, uncounted, counting}
use Rattle.laws.specs.PumpedSteps.{keeps_pumped, pumped-run, pumped_refused}
use Rattle.promises.specs.NoPumps.{no_pumps_after}
use Rattle.promises.specs.Endings.{Proper, ends_as}
use Rattle.promises.specs.TheCall.{call_leaves}
use Rattle.promises.specs.WaterKept.{Balances}

-- ---- The step, by any rule for the new velocities, and then by the one that the calls have

module _ (c : Card) (g s : List ℤ) where
  pub next_sum_by : (rule : Rule) → sum_of_heights c (next_state_by rule c g s) ≡ sum_of_heights c s
  unfolding sum_of_heights next_state_by next
  next_sum_by rule =
      let n = next rule c (read_ground c g) (read_state c s) in
      sum_at_same c.columns c.rows _ n.height (height_back c n) ∙ sum_kept c (read_state c s)

  pub next_sum : sum_of_heights c (next_state c g s) ≡ sum_of_heights c s
  next_sum = next_sum_by new_velocity

-- ---- The pumped step, of a site whose pumps pass

module _ (rule : Rule) (c : Card) (g s ps : List ℤ) (pass : PumpsPass c ps) (long : cells c ≤ length s) where
  pub pumped_sum : sum_of_heights c ((pumped_step_by rule c g ps).next s) +ℤ pos (taken_by ps s) ≡ sum_of_heights c s +ℤ pos (added_by ps)
  pumped_sum = rw (next_sum_by c g (pumped ps s) rule) (sum-pumped c ps pass.fit s long)

-- ---- The run

module _ (c : Card) (g s ps : List ℤ) where
  -- (a run's end keeps what its start has and each accepted step keeps; of its numbers nothing is asked here)
  pub record InBalance (x : Counted) : Type 0 where
    pub sound : Sound c g x.state
    pub balanced : Balanced (sum_of_heights c x.state) (sum_of_heights c s) x.added x.taken

  keeps_sum : PumpsPass c ps → Proper (counting ps (pumped_step c g ps)) InBalance (λ k. Unit {0})
  keeps_sum pass = record {
    kept = λ x w e. record {
      sound = keeps_pumped new_velocity c g ps pass x.state w.sound e;
      balanced =
          balanced_on (sum_of_heights c ((pumped_step c g ps).next x.state)) (sum_of_heights c x.state) (sum_of_heights c s) x.added (added_by ps) x.taken (taken_by ps x.state)
          (pumped_sum new_velocity c g x.state ps pass (sound_facts c g x.state w.sound).lengths.heights) w.balanced;
    };
    numbers = λ x. tt;
    done = tt;
  }

  -- whatever number the checks gave, if that is 0 only where they pass
  balanced_after : (k : ℕ) → (k ≡ 0 → SoundPumped c g s ps) → (Balances c g s ps) (pumped_run_after k c g s ps)
  balanced_after zero passes =
      let p = passes refl in
      subst (Balances c g s ps) (sym (pumped-run c g s ps 0 refl)) (ends_as (keeps_sum p.pumps) c.steps (uncounted s) (record { sound = p.sound; balanced = refl })).passes.balanced
  balanced_after (suc k) passes = subst (Balances c g s ps) (sym (pumped_refused c g s ps (suc k) (suc-ne-zero k))) refl

  pub run_balances : (Balances c g s ps) (pumped_run c g s ps)
  unfolding pumped_run
  run_balances = balanced_after (check_pumped c g s ps) (checked c g s ps)

  -- ---- and of the public calls: a step with number 0, by either engine, and a run with any reason

  pub step_call_balances : (rule : Rule) (lent : List ℤ) → step_answer_by rule c g s ps lent ≡ 0
      → sum_of_heights c (step_next_by rule c g s ps lent) +ℤ pos (taken_by ps s) ≡ sum_of_heights c s +ℤ pos (added_by ps)
  unfolding step_answer_by step_next_by
  step_call_balances rule lent e =
      let p = checked_with c g s ps lent (both_passed _ _ e).0 in
      rw (if_done_lem (step_answer_by rule c g s ps lent) ((pumped_step_by rule c g ps).next s) lent e)
      (pumped_sum rule c g s ps p.pumps (sound_facts c g s p.site.sound).lengths.heights)

  pub run_call_balances : (scratch : List ℤ)
      → sum_of_heights c (run_state c g s ps scratch) +ℤ pos (run_tally c g s ps scratch).taken ≡ sum_of_heights c s +ℤ pos (run_tally c g s ps scratch).added
  unfolding run_state run_tally run_outcome
  run_call_balances scratch =
      balanced_after (check_pumped_with c g s ps (length scratch)) (λ z. let p = checked_with c g s ps scratch z in record { sound = p.site.sound; pumps = p.pumps })

-- ---- Without pumps: nothing is added or taken, and so the sum is kept ([8])

module _ (c : Card) (g s : List ℤ) where
  kept_after : (k : ℕ) → sum_of_heights c (run_after k (site_step c g) c.steps s).state ≡ sum_of_heights c s
  unfolding run_after
  kept_after zero = (ends_as keeps_own c.steps s refl).passes
    where
      keeps_own : Proper (site_step c g) (λ s'. sum_of_heights c s' ≡ sum_of_heights c s) (λ k. Unit {0})
      keeps_own = record { kept = λ s' e k. next_sum c g s' ∙ e; numbers = λ s'. tt; done = tt }
  kept_after (suc k) = refl

  pub run_sum : sum_of_heights c (run c g s).state ≡ sum_of_heights c s
  unfolding run
  run_sum = kept_after (check c g s)

  pub sum_of_the_step : (lent : List ℤ) → step_answer c g s [] lent ≡ 0 → sum_of_heights c (step_next c g s [] lent) ≡ sum_of_heights c s
  unfolding pumped after_pumps
  sum_of_the_step lent e = rw (call_leaves c g s [] lent e) (next_sum c g s)

  pub sum_of_the_run : (scratch : List ℤ) → sum_of_heights c (run_state c g s [] scratch) ≡ sum_of_heights c s
  unfolding run_state run_outcome
  sum_of_the_run scratch = ap (λ (o : PumpedOutcome). sum_of_heights c o.state) (no_pumps_after (check_pumped_with c g s [] (length scratch)) c g s) ∙ kept_after (check_pumped_with c g s [] (length scratch))

-- ---- How great it can be: 16,384 cells of 50,000,000 at most, which a signed 64-bit number holds

pub sum_fits : (c : Card) (g s : List ℤ) → check c g s ≡ 0 → T (between (pos 0) (pos 819200000000) (sum_of_heights c s))
unfolding sum_of_heights heights_fit
sum_fits c g s e =
    let sound = check_sound c g s e in
    let r = card_facts c sound.card in
    let h = (read_state c s).height in
    let z = sum_of_heights c s in
    let most : c.rows * (c.columns * 50000000) ≤ 819200000000 = omega (arith, r.cells_high) in
    let t : T (le_z (pos 0) z && le_z z (pos (c.rows * (c.columns * 50000000)))) =
    sum_at_between 50000000 c.columns c.rows h (all_at_at c.columns c.rows (λ i j. height_fits (h i j)) (sound_depths c g s sound)) in
    and_both (le_z (pos 0) z) (le_z z (pos 819200000000)) (and_left (le_z (pos 0) z) (le_z z (pos (c.rows * (c.columns * 50000000)))) t)
    (le_z_trans z (pos (c.rows * (c.columns * 50000000))) (pos 819200000000)
    (and_right (le_z (pos 0) z) (le_z z (pos (c.rows * (c.columns * 50000000)))) t) (le→leb (c.rows * (c.columns * 50000000)) 819200000000 most))
