-- `staff_of_kind`: a kind that is none is refused, and any other is answered as its reading.
use mathlib.Core.Path.{◌≡◌, refl, ap, ◌∙◌}
use Prim.Native.Nat.{ℕ, zero, suc}
use borrow.Author.Rules.{rules}
use lib.Ieee.{Float}
use Rattle.std.specs.Prelude.{Result, Ok, Err}
use Rattle.rules.specs.declared.Reading.{Reading}
use Rattle.rules.specs.declared.Staff.{Staff}
use Rattle.rules.specs.declared.refusals.Refusal.{Refusal}
use Rattle.rules.specs.Staff.{without_height}
use Rattle.rules.specs.Answers.{staff_of}
use Rattle.rules.specs.Refusals.{refusal_number}
use Rattle.rules.specs.Calls.{staff_answer, kind_answer}
use Rattle.staff.specs.Heights.{reading_of}
use Rattle.staff.proofs.staff_of_kind.Goals as goal

answered : Result Reading Refusal → Staff
answered (Ok reading) = staff_answer reading
answered (Err refusal) = without_height (refusal_number refusal)

of_kind : (k : ℕ) (v : Float) → answered (reading_of k v) ≡ kind_answer k v
unfolding answered reading_of kind_answer
of_kind zero v = refl
of_kind (suc zero) v = refl
of_kind (suc (suc zero)) v = refl
of_kind (suc (suc (suc k))) v = refl

pub returns-in_err-reading_of : goal.returns-in_err-reading_of
unfolding answered without_height
returns-in_err-reading_of c =
    let same : c.from_residual.result ≡ Err c.in_err-reading_of.field-0.0 = search rules in
    record { answer = ap staff_of same ∙ ap answered c.in_err-reading_of.ensures ∙ of_kind _ _ }

pub returns : goal.returns
unfolding answered
returns c = record { answer = c.staff_height.ensures.answer ∙ ap answered c.in_ok-reading_of.ensures ∙ of_kind _ _ }
