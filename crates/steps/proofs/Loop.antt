-- What the loop over a run's steps keeps, and one law for each of its needs.
use mathlib.Core.Path.{◌≡◌, refl, sym, ap, ◌∙◌, subst}
use mathlib.Core.List.{List}
use Prim.Native.Nat.{ℕ, ◌+◌, ◌*◌, ◌≤◌, ◌<◌}
use native.Mathlib.Nat.{pos_of_ne-zero}
use native.Mathlib.Omega.{arith}
use lib.IntN.{ℤ, pos}
use lib.ListN.{length, get_or}
use Rattle.rules.specs.declared.Card.{Card}
use Rattle.rules.specs.declared.Tally.{Tally}
use Rattle.rules.specs.declared.refusals.Refusal.{Refusal}
use Rattle.rules.specs.Refusals.{refusal_number}
use Rattle.rules.specs.Grid.{greatest}
use Rattle.rules.specs.Site.{cells, state_length}
use Rattle.rules.specs.Step.{new_velocity}
use Rattle.rules.specs.Run.{Progress, OutcomeOf, peak, started, accepted, stopped_for}
use Rattle.rules.specs.Pumps.{added_by, taken_by, pumped_step, progress_of, one_more, HasRoom}
use Rattle.laws.specs.Facts.{Sound, sound_facts}
use Rattle.laws.specs.Refusing.{number-ne0}
use Rattle.laws.specs.Runs.{LeadsTo, leads_from, leads_on, leads_nowhere, led}
use Rattle.laws.specs.PumpChecks.{PumpsPass, added_most, taken_most}
use Rattle.laws.specs.Counting.{Counted, uncounted, told, counting}
use Rattle.laws.specs.PumpedSteps.{keeps_pumped}
use Rattle.pumps.specs.declared.Acted.{Acted}
use Rattle.pumped.specs.Moved.{Moved, NotMoved}
use Rattle.steps.specs.Running.{Ended, counted_run, told_run}

-- a tally and a state, as the step that counts has them
abbrev counts : Tally → List ℤ → Counted
counts t s = record { state = s; added = t.added; taken = t.taken }

-- after `done` accepted steps the tally is t and the state s, still of a sound site, and each step added and took at most 64,000,000; the steps that are left lead to
-- the run's outcome
pub record Running (c : Card) (g s₀ ps s : List ℤ) (t : Tally) (done : ℕ) : Type 0 where
  pub sound : Sound c g s
  pub long : length s ≡ state_length c
  pub most : done ≤ c.steps
  pub counted : t.steps ≡ done
  pub added_low : t.added ≤ done * 64000000
  pub taken_low : t.taken ≤ done * 64000000
  pub leads : LeadsTo (counting ps (pumped_step c g ps)) c.steps done (progress_of t) (counts t s) (counted_run c g s₀ ps)

pub few_steps : (c : Card) (g s : List ℤ) → Sound c g s → c.steps ≤ 10000
few_steps c g s e = (sound_facts c g s e).card.steps_high

pub cells_held : (c : Card) (g s : List ℤ) → Sound c g s → cells c ≤ length s
cells_held c g s e = (sound_facts c g s e).lengths.heights

-- the greatest height, as it was found
pub peak_is : (c : Card) (s : List ℤ) (n : ℕ) {h : ℤ} → n ≡ cells c → h ≡ greatest n (λ k. get_or s k (pos 0)) → h ≡ peak c s
unfolding peak
peak_is c s n e p = p ∙ ap (λ (m : ℕ). greatest m (λ k. get_or s k (pos 0))) e

pub begins : (c : Card) (g s ps : List ℤ) (h : ℤ) → Sound c g s → h ≡ peak c s → Running c g s ps s (record { steps = 0; reason = 0; top = h; added = 0; taken = 0 }) 0
unfolding started
begins c g s ps h e p = record {
  sound = e;
  long = (sound_facts c g s e).lengths.state;
  most = omega arith;
  counted = refl;
  added_low = omega arith;
  taken_low = omega arith;
  leads =
      subst (λ (x : ℤ). LeadsTo (counting ps (pumped_step c g ps)) c.steps 0 (record { steps = 0; reason = 0; top = x }) (uncounted s) (counted_run c g s ps)) (sym p)
      (leads_from (counting ps (pumped_step c g ps)) c.steps (uncounted s));
}

-- in the tally there is room for one step more, and for any two numbers that a step may add and take
pub room_for : {c : Card} {g s₀ ps s : List ℤ} {t : Tally} {done : ℕ} → Running c g s₀ ps s t done → done < c.steps → (a k : ℕ) → a ≤ 64000000 → k ≤ 64000000 → HasRoom t a k
room_for {c} {g} {s = s} r l a k p q =
    let few = few_steps c g s r.sound in
    record { steps = omega (arith, r.counted, few, l); added = omega (arith, p, r.added_low, few, l); taken = omega (arith, q, r.taken_low, few, l) }

module _ {c : Card} {g s₀ ps s : List ℤ} {t : Tally} {done : ℕ} (pass : PumpsPass c ps) (r : Running c g s₀ ps s t done) where
  -- a step that is refused: the state is as it was
  pub stops : done < c.steps → {refusal : Refusal} {after : List ℤ} → NotMoved new_velocity c g ps s refusal after → (reason : ℕ) → reason ≡ refusal_number refusal → (n : ℕ) → n ≡ t.steps
      → Ended (told_run c g s₀ ps) (record { steps = n; reason = reason; top = t.top; added = t.added; taken = t.taken }) after
  unfolding stopped_for
  stops l {refusal} a reason is n e =
      let o = leads_nowhere r.leads l (refusal_number refusal) (pos_of_ne-zero (number-ne0 refusal)) (sym a.number) in
      record {
        tallied = (λ i. record { steps = e i; reason = is i; top = t.top; added = t.added; taken = t.taken }) ∙ ap (λ (x : OutcomeOf Counted). (told x).tally) o;
        left = a.undone ∙ ap (λ (x : OutcomeOf Counted). (told x).state) o;
      }

  -- one that is done: the state is what it made, and the tally has the new state's greatest height
  pub goes_on : done < c.steps → {acted : Acted} {made : List ℤ} → Moved new_velocity c g ps s acted made → {s' : List ℤ} → s' ≡ made
      → (h : ℤ) → h ≡ peak c s' → (t' : Tally) → t' ≡ one_more t h acted.added acted.taken → Running c g s₀ ps s' t' (done + 1)
  unfolding accepted one_more
  goes_on l {acted} {made} a {s'} is h top t' taken =
      let step = pumped_step c g ps in
      let e : step.number s ≡ 0 = sym a.number in
      let new : s' ≡ step.next s = is ∙ a.state in
      let kept : Sound c g s' = subst (λ (x : List ℤ). Sound c g x) (sym new) (keeps_pumped new_velocity c g ps pass s r.sound e) in
      let added_is : t'.added ≡ t.added + added_by ps = ap (λ (x : Tally). x.added) taken ∙ ap (λ (n : ℕ). t.added + n) a.added in
      let taken_is : t'.taken ≡ t.taken + taken_by ps s = ap (λ (x : Tally). x.taken) taken ∙ ap (λ (n : ℕ). t.taken + n) a.taken in
      let p : progress_of t' ≡ accepted (progress_of t) (peak c (step.next s)) = ap progress_of taken ∙ ap (accepted (progress_of t)) (top ∙ ap (peak c) new) in
      let q : counts t' s' ≡ (counting ps step).next (counts t s) = λ i. record { state = new i; added = added_is i; taken = taken_is i } in
      record {
        sound = kept;
        long = (sound_facts c g s' kept).lengths.state;
        most = omega arith;
        counted = ap (λ (x : Tally). x.steps) taken ∙ ap (λ (n : ℕ). n + 1) r.counted;
        added_low = omega (arith, added_is, added_most c ps pass, r.added_low);
        taken_low = omega (arith, taken_is, taken_most c ps pass s, r.taken_low);
        leads =
            subst (λ (x : Counted). LeadsTo (counting ps step) c.steps (done + 1) (progress_of t') x (counted_run c g s₀ ps)) (sym q)
            (subst (λ (x : Progress). LeadsTo (counting ps step) c.steps (done + 1) x ((counting ps step).next (counts t s)) (counted_run c g s₀ ps)) (sym p) (leads_on r.leads l e));
      }

  pub ends : c.steps ≤ done → Ended (told_run c g s₀ ps) t s
  ends l = let o = led r.leads l in record { tallied = ap (λ (x : OutcomeOf Counted). (told x).tally) o; left = ap (λ (x : OutcomeOf Counted). (told x).state) o }
