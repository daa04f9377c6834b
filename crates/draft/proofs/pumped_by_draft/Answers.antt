-- `pumped_by_draft`: the state is copied to the front of the copy; a refused step hands nothing over, and one that is done the next state, from the front of the draft.
use Rattle.std.proofs.Common.{rules, ◌≡◌, ◌∙◌, ap, arith}
use lib.Seq.{length-take-le}
use Rattle.rules.specs.Pumps.{pumped_step_by}
use Rattle.laws.specs.Engines.{engine}
use Rattle.laws.specs.Facts.{sound_facts}
use Rattle.draft.proofs.Drafts.{handed, nothing_handed}
use Rattle.draft.proofs.pumped_by_draft.Goals as goal

pub copy-requires : goal.copy-requires
copy-requires g c =
    let site = c.requires.drafting.site in
    omega (arith, length-take-le _ c.args.copy.now c.requires.copy_room, site.long, (sound_facts _ _ _ site.sound).lengths.state)

pub returns-in_err-pumped_advance : goal.returns-in_err-pumped_advance
returns-in_err-pumped_advance g c =
    let a = c.args in
    let step = pumped_step_by (engine g.E.Engine.TEXTBOOK) a.card a.land.now a.pumps.now in
    let copied : c.copy.new.to ≡ a.state.now = search rules in
    nothing_handed c.in_err-pumped_advance.field-0.0 (search rules) (c.in_err-pumped_advance.ensures.number ∙ ap step.number copied)

pub returns : goal.returns
returns g c =
    let a = c.args in
    let step = pumped_step_by (engine g.E.Engine.TEXTBOOK) a.card a.land.now a.pumps.now in
    let copied : c.copy.new.to ≡ a.state.now = search rules in
    let done = c.in_ok-pumped_advance.ensures in
    handed (done.number ∙ ap step.number copied) (c.copy-2.ensures ∙ done.state ∙ ap step.next copied)
