-- Why what specs/NoNegativeShare.antt says holds.
use Prim.Native.Nat.{ℕ, zero, suc, ◌≤◌}
use Rattle.std.specs.Prelude.{◌≡◌, Bool, true, false, List, ℤ, length}
use Rattle.std.proofs.Math.Path.{refl, sym, ap}
use Rattle.std.proofs.Common.{subst, ◌∙◌, suc-ne-zero, arith}
use Rattle.rules.specs.declared.Card.{Card}
use Rattle.rules.specs.Site.{check_also, check, first_refusal, read_ground, read_state}
use Rattle.rules.specs.Step.{Rule, new_velocity, limit_kept, new_heights_fit, answer, number, step_number_by}
use Rattle.rules.specs.Run.{site_step, run_from, history}
use Rattle.rules.specs.Pumps.{check_pumped, check_pumped_with, pumped_step, reported, PumpedOutcome, pumped_run_after, pumped_run}
use Rattle.rules.specs.Calls.{step_answer, run_outcome, run_tally, step_answer_by}
use Rattle.laws.specs.Tests.{true_of, to_T}
use Rattle.laws.specs.Checks.{at_most_3}
use Rattle.laws.specs.Facts.{card_facts, sound_depths, check_sound, sound_check}
use Rattle.laws.specs.Bounded.{east_share, north_share}
use Rattle.laws.specs.Keeps.{keeps}
use Rattle.laws.specs.Follows.{Follows, Always, follows}
use Rattle.laws.specs.Pumped.{sound_pumped}
use Rattle.laws.specs.PumpChecks.{PumpsPass, checked, checked_of_with}
use Rattle.laws.specs.Counting.{uncounted, told, counted, counting_follows}
use Rattle.laws.specs.PumpedSteps.{pumping_follows, pumped-run, pumped_refused}
use Rattle.laws.specs.Outcomes.{first_same}
use Rattle.promises.specs.InnerFaces.{every_inner, inner_intro}
use Rattle.promises.specs.TheCall.{call_runs}
use Rattle.promises.specs.NeverInTheMiddle.{OfAStep, done, over_the_limit, too_high, too_fast, pumped_numbers, Ends, ends}
use Rattle.promises.specs.NoNegativeShare.{NoneNegative, answer_with6, east_share_fits, north_share_fits, number_with6, pumped_step_with6, shares_fit, step_with6}

-- ---- The theorems: of a site that passes the first three checks

module _ (c : Card) (g s : List ℤ) (e : check c g s ≡ 0) where
  pub no_negative_share : limit_kept c (read_state c s) ≡ true → NoneNegative c (read_ground c g) (read_state c s)
  no_negative_share limit =
      let sound = check_sound c g s e in
      let r = card_facts c sound.card in
      let depths = sound_depths c g s sound in
      record {
        east = east_share c (read_state c s) (omega arith) (omega arith) depths (to_T limit) (read_ground c g);
        north = north_share c (read_state c s) (omega arith) (omega arith) depths (to_T limit) (read_ground c g);
      }

  -- so document 01's test never fails behind a limit that is kept
  pub shares_fit_lem : limit_kept c (read_state c s) ≡ true → shares_fit c (read_ground c g) (read_state c s) ≡ true
  unfolding shares_fit
  shares_fit_lem limit =
      let east = east_share_fits c (read_ground c g) (read_state c s) in
      let north = north_share_fits c (read_ground c g) (read_state c s) in
      true_of (every_inner c east north) (inner_intro c east north (no_negative_share limit))

-- a look that passes wherever the limit is kept changes no number
pub passed_over : (l h s v : Bool) → (l ≡ true → s ≡ true) → answer_with6 l h s v ≡ answer l h v
unfolding answer answer_with6
passed_over false h s v f = refl
passed_over true h s v f = rw (f refl) (last h v)
  where
    last : (h v : Bool) → answer_with6 true h true v ≡ answer true h v
    last false v = refl
    last true false = refl
    last true true = refl

-- so the step has the same number, whatever rule gives the new velocities
pub number_without_6 : (rule : Rule) (c : Card) (g s : List ℤ) → check c g s ≡ 0 → number_with6 rule c (read_ground c g) (read_state c s) ≡ step_number_by rule c g s
unfolding number_with6 step_number_by number
number_without_6 rule c g s e = passed_over (limit_kept c (read_state c s)) (new_heights_fit c (read_state c s)) _ _ (shares_fit_lem c g s e)

follows_without_6 : (c : Card) (g : List ℤ) → Follows (λ s. check c g s ≡ 0) Always (λ s. s) (site_step c g) (step_with6 c g)
follows_without_6 c g = record {
  kept = keeps c g;
  done = tt;
  numbers = λ s e u. number_without_6 new_velocity c g s e;
  states = λ s e k. refl;
  peaks = λ s e. refl;
}

pumped_without_6 : (c : Card) (g ps : List ℤ) → PumpsPass c ps → Follows (λ s. check c g s ≡ 0) Always (λ s. s) (pumped_step c g ps) (pumped_step_with6 c g ps)
pumped_without_6 c g ps pass =
    pumping_follows (follows_without_6 c g) (record {
      kept = λ s e i. sound_check c g _ (sound_pumped c ps pass.fit g s i (check_sound c g s e));
      limits = λ s e. refl;
      inlets = λ s e. refl;
      states = λ s e. refl;
    })

-- and its run is the same, with what its history adds and takes; of the call, lent a scratch list as long as its state, whatever its pumps
pub run_without_6 : (c : Card) (g s ps scratch : List ℤ) → check_pumped c g s ps ≡ 0 → length scratch ≡ length s
    → run_outcome c g s ps scratch ≡ reported ps (history (pumped_step_with6 c g ps) c.steps s) (run_from (pumped_step_with6 c g ps) c.steps s)
unfolding pumped_run
run_without_6 c g s ps scratch e l =
    let p = checked c g s ps e in
    call_runs c g s ps scratch l
    ∙ pumped-run c g s ps (check_pumped c g s ps) e
    ∙ ap told (sym (follows (counting_follows ps ps (pumped_without_6 c g ps p.pumps) refl (λ v q z. refl)) c.steps (uncounted s) (sound_check c g s p.sound) tt))
    ∙ sym (counted ps (pumped_step_with6 c g ps) c.steps s)

-- ---- Of the step and the run, whatever they are lent: every answer stays, and none is 6. (No other call gives the numbers of a step.)

not_6 : {k : ℕ} → OfAStep k → k ≡ 6 → ⊥
not_6 done e = omega (arith, e)
not_6 over_the_limit e = omega (arith, e)
not_6 too_high e = omega (arith, e)
not_6 too_fast e = omega (arith, e)

behind_checks : (k n : ℕ) → k ≤ 3 → (n ≡ 6 → ⊥) → first_refusal k n ≡ 6 → ⊥
unfolding first_refusal
behind_checks zero n l h e = h e
behind_checks (suc k) n l h e = omega (arith, l, e)

module _ (c : Card) (g s ps lent : List ℤ) where
  pub answer_without_6 : step_answer c g s ps lent ≡ first_refusal (check_pumped_with c g s ps (length lent)) ((pumped_step_with6 c g ps).number s)
  unfolding step_answer_by
  answer_without_6 =
      first_same (check_pumped_with c g s ps (length lent))
      (λ z. let p = checked c g s ps (checked_of_with c g s ps lent z) in sym ((pumped_without_6 c g ps p.pumps).numbers s (sound_check c g s p.sound) tt))

  checks_low : check_pumped_with c g s ps (length lent) ≤ 3
  unfolding check_pumped_with check_also
  checks_low = at_most_3 _ _ _

  pub step_never_6 : step_answer c g s ps lent ≡ 6 → ⊥
  unfolding step_answer_by
  step_never_6 = behind_checks (check_pumped_with c g s ps (length lent)) ((pumped_step c g ps).number s) checks_low (not_6 (pumped_numbers c g ps s))

  reasons : (k : ℕ) → k ≤ 3 → (k ≡ 0 → check_pumped c g s ps ≡ 0) → (pumped_run_after k c g s ps).tally.reason ≡ 6 → ⊥
  unfolding pumped_run
  reasons zero l sound e =
      let z = sound refl in
      not_6 (subst (λ (k : ℕ). Ends c g ps c.steps (pumped_run_after k c g s ps)) z (ends c g s ps z)).reason e
  reasons (suc k) l sound e =
      let r : (pumped_run_after (suc k) c g s ps).tally.reason ≡ suc k = ap (λ (o : PumpedOutcome). o.tally.reason) (pumped_refused c g s ps (suc k) (suc-ne-zero k)) in
      omega (arith, l, e, r)

  pub run_never_6 : (run_tally c g s ps lent).reason ≡ 6 → ⊥
  unfolding run_tally run_outcome
  run_never_6 = reasons (check_pumped_with c g s ps (length lent)) checks_low (checked_of_with c g s ps lent)
