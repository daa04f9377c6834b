-- What a sound site gives a run, and each answer of the public run.
use mathlib.Core.Path.{◌≡◌, sym, ap, ◌∙◌}
use mathlib.Core.List.{List}
use Prim.Native.Nat.{ℕ, ◌≤◌}
use native.Mathlib.Omega.{arith}
use lib.IntN.{ℤ, pos}
use lib.ListN.{length, replicate}
use Rattle.rules.specs.declared.Card.{Card}
use Rattle.rules.specs.declared.Tally.{Tally}
use Rattle.rules.specs.declared.refusals.Refusal.{Refusal}
use Rattle.rules.specs.Refusals.{refusal_number}
use Rattle.rules.specs.Site.{state_length}
use Rattle.rules.specs.Pumps.{check_pumped_with, PumpedOutcome, pumped_run_after}
use Rattle.rules.specs.Calls.{run_outcome, run_tally, run_state, run_scratch}
use Rattle.rules.specs.PublicContracts.{RunContract}
use Rattle.laws.specs.Facts.{sound_facts}
use Rattle.laws.specs.Refusing.{number-ne0}
use Rattle.laws.specs.Outcomes.{if_done_lem, if_refused}
use Rattle.laws.specs.PumpChecks.{SoundPumpedWith, to_checked_with}
use Rattle.laws.specs.PumpedSteps.{pumped-run, pumped_refused}
use Rattle.steps.specs.Running.{RunRoom, told_run, Ended}
use Rattle.run.specs.Roomy.{Roomy}

-- no state is longer than the longest
pub state_few : (c : Card) (g s ps x : List ℤ) → SoundPumpedWith c g s ps x → length s ≤ 49408
state_few c g s ps x w = let f = sound_facts c g s w.site.sound in omega (arith, f.lengths.state, f.card.state_high)

pub run_room : {room : ℕ} {c : Card} {g s ps x : List ℤ} → Roomy room c g s ps x → {tide : List ℤ} → length tide ≡ length s → RunRoom c g s ps x tide
run_room {s = s} roomy long =
    let site = roomy.lent.site in
    let state : length s ≡ state_length _ = (sound_facts _ _ _ site.sound).lengths.state in
    record { sound = site.sound; pass = roomy.lent.pumps; state_long = state; scratch_long = site.long; tide_long = long ∙ state }

module _ (c : Card) (g s ps x : List ℤ) where
  -- 1 to 3: steps 0, top 0, nothing added, nothing taken, both lists as lent
  pub refused : (refusal : Refusal) → refusal_number refusal ≡ check_pumped_with c g s ps (length x) → (k : ℕ) → k ≡ refusal_number refusal → RunContract c g s ps x (record { steps = 0; reason = k; top = pos 0; added = 0; taken = 0 }) s x
  unfolding run_tally run_state run_scratch run_outcome
  refused refusal is k by_number =
      let e : k ≡ check_pumped_with c g s ps (length x) = by_number ∙ is in
      let h : k ≡ 0 → ⊥ = λ z. number-ne0 refusal (sym by_number ∙ z) in
      let o : pumped_run_after (check_pumped_with c g s ps (length x)) c g s ps ≡ record { tally = record { steps = 0; reason = k; top = pos 0; added = 0; taken = 0 }; state = s } =
      ap (λ (n : ℕ). pumped_run_after n c g s ps) (sym e) ∙ pumped_refused c g s ps k h in
      record {
        answer = sym (ap (λ (o : PumpedOutcome). o.tally) o);
        state_exit = sym (ap (λ (o : PumpedOutcome). o.state) o);
        scratch_exit = sym (if_refused (check_pumped_with c g s ps (length x)) (replicate (length x) (pos 0)) x (λ z. h (e ∙ z)));
      }

  -- else the run's outcome, and scratch all zero
  pub ran : {t : Tally} {s' y : List ℤ} → SoundPumpedWith c g s ps x → Ended (told_run c g s ps) t s' → y ≡ replicate (length x) (pos 0) → RunContract c g s ps x t s' y
  unfolding run_tally run_state run_scratch run_outcome
  ran lent o z =
      let e = to_checked_with c g s ps x lent in
      let p = pumped-run c g s ps (check_pumped_with c g s ps (length x)) e in
      record {
        answer = o.tallied ∙ sym (ap (λ (o : PumpedOutcome). o.tally) p);
        state_exit = o.left ∙ sym (ap (λ (o : PumpedOutcome). o.state) p);
        scratch_exit = z ∙ sym (if_done_lem (check_pumped_with c g s ps (length x)) (replicate (length x) (pos 0)) x e);
      }
