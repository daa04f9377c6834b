-- `step_by_draft`: a refused step hands nothing over, and one that is done the next state, from the front of the draft.
use Rattle.std.proofs.Common.{rules, ◌∙◌, refl}
use Rattle.draft.proofs.Drafts.{handed, nothing_handed, front}
use Rattle.draft.proofs.step_by_draft.Goals as goal

pub returns-in_err-advance : goal.returns-in_err-advance
returns-in_err-advance g c = nothing_handed c.in_err-advance.field-0.0 (search rules) c.in_err-advance.ensures.number

pub returns : goal.returns
returns g c = handed c.in_ok-advance.ensures.number (c.copy_from_slice.ensures.after ∙ front c.args.draft.now _ c.advance.auto.next c.requires.draft ∙ c.in_ok-advance.ensures.state refl)
