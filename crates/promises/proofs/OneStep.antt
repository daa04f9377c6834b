-- Why what specs/OneStep.antt says holds.
use Rattle.std.specs.Prelude.{ℕ, zero, suc, ◌≡◌, refl, List, ℤ, length}
use Rattle.std.proofs.Common.{sym, ap, ◌∙◌, subst, ne_of_gt, zero-add, suc-ne-zero}
use Rattle.rules.specs.declared.Card.{Card}
use Rattle.rules.specs.Site.{first_refusal, if_done}
use Rattle.rules.specs.Run.{SteppingOf, Stepping, started, accepted, stopped_for, run_from}
use Rattle.rules.specs.Pumps.{check_pumped_with, added_by, taken_by, pumped_step, pumped_run_after}
use Rattle.rules.specs.Calls.{step_answer, run_outcome, run_tally, run_state, step_answer_by}
use Rattle.laws.specs.Outcomes.{if_done_lem, if_refused, if_same}
use Rattle.laws.specs.Runs.{further, finished, by_step}
use Rattle.laws.specs.Counting.{Counted, uncounted, told, counting}
use Rattle.laws.specs.PumpedSteps.{pumped-run, pumped_refused}
use Rattle.promises.specs.TheCall.{call_leaves}
use Rattle.promises.specs.OneStep.{Once, OncePumped, IsTheStep}

pub once : {S : Type 0} (step : SteppingOf S) (s : S) → Once (step.number s) (step.next s) s (run_from step 1 s)
unfolding run_from started accepted stopped_for
once step s =
    by_step step 0 (started (step.peak s)) s (Once (step.number s) (step.next s) s)
    (λ e.
    subst (Once (step.number s) (step.next s) s) (sym (finished step (further step (started (step.peak s)) s) (step.next s)))
    (record { reason = sym e; steps = sym (if_done_lem _ _ _ e); state = sym (if_done_lem _ _ _ e) }))
    (λ r p e.
    let no : step.number s ≡ 0 → ⊥ = λ z. ne_of_gt p (sym e ∙ z) in
    record { reason = sym e; steps = sym (if_refused _ _ _ no); state = sym (if_refused _ _ _ no) })

picked : {A B : Type 0} (f : A → B) (k : ℕ) (done refused : A) → f (if_done k done refused) ≡ if_done k (f done) (f refused)
unfolding if_done
picked f zero done refused = refl
picked f (suc k) done refused = refl

once_told : (ps : List ℤ) (step : Stepping) (s : List ℤ) → OncePumped (step.number s) (step.next s) s (added_by ps) (taken_by ps s) (told (run_from (counting ps step) 1 (uncounted s)))
once_told ps step s =
    let o = once (counting ps step) (uncounted s) in
    let k = step.number s in
    let made = (counting ps step).next (uncounted s) in
    record {
      reason = o.reason;
      steps = o.steps;
      state = ap (λ (x : Counted). x.state) o.state ∙ picked (λ (x : Counted). x.state) k made (uncounted s);
      added_is = ap (λ (x : Counted). x.added) o.state ∙ picked (λ (x : Counted). x.added) k made (uncounted s) ∙ ap (λ (n : ℕ). if_done k n 0) (zero-add (added_by ps));
      taken_is = ap (λ (x : Counted). x.taken) o.state ∙ picked (λ (x : Counted). x.taken) k made (uncounted s) ∙ ap (λ (n : ℕ). if_done k n 0) (zero-add (taken_by ps s));
    }

once_after : (c : Card) (g s ps : List ℤ) → c.steps ≡ 1 → (k : ℕ)
    → OncePumped (first_refusal k ((pumped_step c g ps).number s)) ((pumped_step c g ps).next s) s (added_by ps) (taken_by ps s) (pumped_run_after k c g s ps)
unfolding first_refusal if_done
once_after c g s ps w zero =
    let step = pumped_step c g ps in
    subst (OncePumped (step.number s) (step.next s) s (added_by ps) (taken_by ps s))
    (sym (pumped-run c g s ps 0 refl ∙ ap (λ (n : ℕ). told (run_from (counting ps step) n (uncounted s))) w)) (once_told ps step s)
once_after c g s ps w (suc k) =
    subst (OncePumped (suc k) ((pumped_step c g ps).next s) s (added_by ps) (taken_by ps s)) (sym (pumped_refused c g s ps (suc k) (suc-ne-zero k)))
    (record { reason = refl; steps = refl; state = refl; added_is = refl; taken_is = refl })

pub is_the_step : (c : Card) (g s ps next scratch : List ℤ) → c.steps ≡ 1 → length next ≡ length scratch → IsTheStep c g s ps next scratch
unfolding run_tally run_state run_outcome step_answer_by
is_the_step c g s ps next scratch w e =
    let k = step_answer c g s ps next in
    let o : OncePumped k ((pumped_step c g ps).next s) s (added_by ps) (taken_by ps s) (run_outcome c g s ps scratch) =
    subst (λ (n : ℕ). OncePumped k ((pumped_step c g ps).next s) s (added_by ps) (taken_by ps s) (pumped_run_after (check_pumped_with c g s ps n) c g s ps)) e (once_after c g s ps w (check_pumped_with c g s ps (length next))) in
    record { reason = o.reason; steps = o.steps; added = o.added_is; taken = o.taken_is; state = o.state ∙ if_same k s (λ z. sym (call_leaves c g s ps next z)) }
