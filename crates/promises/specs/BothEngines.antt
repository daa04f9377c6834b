-- Document 02, [5]: the textbook engine beside the first one. The division of its two terms by H' leaves no rest, both engines give every face the same new
-- velocity, and every answer and every list of the one call is that of the other, for every input, refused ones too.
use Rattle.std.specs.Prelude.{ℕ, ◌≡◌, true, List, ℤ, pos, ◌+ℤ◌, ◌*ℤ◌, T}
use Rattle.std.proofs.Common.{◌∙◌, sym, ap, subst}
use Rattle.std.specs.Int.Signed.{lt_z}
use Rattle.rules.specs.declared.Card.{Card}
use Rattle.rules.specs.declared.Face.{Face}
use Rattle.rules.specs.Step.{Rule, new_sum, rise, dry_bank, new_velocity}
use Rattle.rules.specs.Textbook.{pressure_term, ground_term, textbook_rise, textbook_velocity}
use Rattle.rules.specs.Calls.{step_answer_by, step_next_by, step_answer, step_next, textbook_answer, textbook_next}
use Rattle.rules.specs.PublicContracts.{StepContract, TextbookContract}
use Rattle.laws.specs.Numbers.{above_is_not_0}
use Rattle.laws.specs.Rules.{same_rule}
use Rattle.laws.specs.Velocity.{on_a_bank}
use Rattle.laws.specs.Textbook.{no_rest, one_velocity}

-- H' times the quotient is the sum of the two terms, of every face with H' above 0
pub leaves_no_rest : (f : Face) → T (lt_z (pos 0) (new_sum f)) → new_sum f *ℤ textbook_rise f ≡ pressure_term f +ℤ ground_term f
leaves_no_rest f above = no_rest f (above_is_not_0 (new_sum f) above)

-- the two rules are one, on every face
pub one_rule : textbook_velocity ≡ new_velocity
one_rule = same_rule textbook_velocity new_velocity (λ dt d f. one_velocity f dt d)

-- and [2]'s bank rule stands in both
pub banks_in_both : (dt d : ℕ) (f : Face) → dry_bank f ≡ true → (new_velocity dt d f ≡ pos 0) × (textbook_velocity dt d f ≡ pos 0)
banks_in_both dt d f e = (on_a_bank rise dt d f e, on_a_bank textbook_rise dt d f e)

-- so all that is promised of the first engine's step is promised of the textbook's
pub carries_over : (Promised : Rule → Type 0) → Promised new_velocity → Promised textbook_velocity
carries_over Promised = subst Promised (sym one_rule)

-- the call's number, and its next state at exit, with any pumps
pub same_answer : (c : Card) (g s ps next : List ℤ) → textbook_answer c g s ps next ≡ step_answer c g s ps next
same_answer c g s ps next = ap (λ (rule : Rule). step_answer_by rule c g s ps next) one_rule

pub same_next : (c : Card) (g s ps next : List ℤ) → textbook_next c g s ps next ≡ step_next c g s ps next
same_next c g s ps next = ap (λ (rule : Rule). step_next_by rule c g s ps next) one_rule

-- any outcome that the one contract allows equals any that the other does
pub engines_agree : {c : Card} {g s ps n : List ℤ} {k k' : ℕ} {v v' : List ℤ} → TextbookContract c g s ps n k v → StepContract c g s ps n k' v' → (k ≡ k') × (v ≡ v')
engines_agree {c} {g} {s} {ps} {n} p q = (p.answer ∙ same_answer c g s ps n ∙ sym q.answer, p.next_exit ∙ same_next c g s ps n ∙ sym q.next_exit)
