-- The rooms that a step goes through, and its answer: where a check fails, and where none does.
use mathlib.Core.Path.{◌≡◌, ◌∙◌, sym, ap, subst}
use mathlib.Core.Bool.{Bool, true, false, cond}
use mathlib.Core.List.{List, [], ◌∷◌}
use Prim.Native.Nat.{ℕ, ◌≤◌, ◌<◌}
use native.Mathlib.Nat.{suc-ne-zero}
use native.Mathlib.Omega.{arith}
use lib.Dec.{T, leb, leb→le}
use lib.IntN.{ℤ}
use lib.ListN.{length}
use Rattle.rules.specs.declared.Card.{Card}
use Rattle.rules.specs.declared.refusals.Refusal.{Refusal}
use Rattle.rules.specs.Refusals.{refusal_number}
use Rattle.rules.specs.Site.{if_done}
use Rattle.rules.specs.Step.{Rule}
use Rattle.rules.specs.Run.{Stepping, site_step_by}
use Rattle.rules.specs.Pumps.{check_pumped_with, pumped_step_by}
use Rattle.rules.specs.Calls.{step_answer_by, step_next_by}
use Rattle.rules.specs.PublicContracts.{StepContractBy}
use Rattle.laws.specs.Facts.{SoundWith, sound_facts}
use Rattle.laws.specs.PumpedSteps.{no_pumps}
use Rattle.laws.specs.Refusing.{number-ne0}
use Rattle.laws.specs.Outcomes.{first_refused, first_passed, if_refused}
use Rattle.draft.specs.Draft.{Handed}

-- no state is longer than the longest
pub room_few : (c : Card) (g s n : List ℤ) → SoundWith c g s n → length n ≤ 49408
room_few c g s n w = omega (arith, w.long, (sound_facts c g s w.sound).card.state_high)

-- where a state is longer than the room, the next larger room is larger
pub room_grows : (room : ℕ) {long : ℕ} → room < long → long ≤ 49408 → room < cond (leb room 800) 3136 49408
room_grows room {long} h most = pick (leb room 800) (leb→le room 800)
  where
    pick : (b : Bool) → (T b → room ≤ 800) → room < cond b 3136 49408
    pick true f = let few = f tt in omega arith
    pick false f = omega arith

module _ {rule : Rule} {c : Card} {g s ps n : List ℤ} {r : ℕ} where
  -- 1 to 3: the next state as lent
  pub refused_early : (refusal : Refusal) → r ≡ refusal_number refusal → refusal_number refusal ≡ check_pumped_with c g s ps (length n) → StepContractBy rule c g s ps n r n
  unfolding step_next_by step_answer_by
  refused_early refusal is e =
      let h : refusal_number refusal ≡ 0 → ⊥ = number-ne0 refusal in
      let k : r ≡ step_answer_by rule c g s ps n = is ∙ e ∙ sym (first_refused (check_pumped_with c g s ps (length n)) ((pumped_step_by rule c g ps).number s) (λ z. h (e ∙ z))) in
      record { answer = k; next_exit = sym (if_refused (step_answer_by rule c g s ps n) ((pumped_step_by rule c g ps).next s) n (λ z. h (sym is ∙ k ∙ z))) }

  -- else what the pumped step hands over
  pub handed_over : {m : List ℤ} → check_pumped_with c g s ps (length n) ≡ 0 → Handed (pumped_step_by rule c g ps) s n r m → StepContractBy rule c g s ps n r m
  unfolding step_next_by step_answer_by
  handed_over e d =
      let k : step_answer_by rule c g s ps n ≡ (pumped_step_by rule c g ps).number s = first_passed (check_pumped_with c g s ps (length n)) ((pumped_step_by rule c g ps).number s) e in
      record { answer = d.answer ∙ sym k; next_exit = d.next_exit ∙ ap (λ (x : ℕ). if_done x ((pumped_step_by rule c g ps).next s) n) (sym k) }

-- without pumps the step is the pumped one
pub none_handed : (rule : Rule) (c : Card) (g s ps n : List ℤ) {m : List ℤ} {r : ℕ} → length ps ≡ 0 → Handed (site_step_by rule c g) s n r m → Handed (pumped_step_by rule c g ps) s n r m
none_handed rule c g s [] n {m} {r} z d = subst (λ (step : Stepping). Handed step s n r m) (sym (no_pumps rule c g)) d
none_handed rule c g s (x ∷ ps) n z d = absurd (suc-ne-zero (length ps) z)
