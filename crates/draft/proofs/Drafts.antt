-- What a step hands over: 0 and the next state, or its refusal and the next state as lent.
use mathlib.Core.Path.{◌≡◌, ◌∙◌, sym}
use mathlib.Core.List.{List, ◌++◌}
use Prim.Native.Nat.{ℕ, ◌≤◌}
use lib.IntN.{ℤ}
use lib.ListN.{length, take}
use lib.Seq.{length-take-le, take_at}
use Rattle.rules.specs.declared.refusals.Refusal.{Refusal}
use Rattle.rules.specs.Refusals.{refusal_number}
use Rattle.rules.specs.Run.{Stepping}
use Rattle.laws.specs.Outcomes.{if_done_lem, if_refused}
use Rattle.laws.specs.Refusing.{number-ne0}
use Rattle.draft.specs.Draft.{Handed}

module _ {step : Stepping} {s lent : List ℤ} where
  pub handed : {n : List ℤ} → 0 ≡ step.number s → n ≡ step.next s → Handed step s lent 0 n
  handed e is = record { answer = e; next_exit = is ∙ sym (if_done_lem (step.number s) (step.next s) lent (sym e)) }

  pub nothing_handed : (refusal : Refusal) {r : ℕ} → r ≡ refusal_number refusal → refusal_number refusal ≡ step.number s → Handed step s lent r lent
  nothing_handed refusal is e = record { answer = is ∙ e; next_exit = sym (if_refused (step.number s) (step.next s) lent (λ z. number-ne0 refusal (e ∙ z))) }

-- what was worked out in the front of a list, and is read there again
pub front : {n : ℕ} {made : List ℤ} (lent rest : List ℤ) → length made ≡ length (take n lent) → n ≤ length lent → take n (made ++ rest) ≡ made
front {n} {made} lent rest e h = take_at made rest n (e ∙ length-take-le n lent h)
