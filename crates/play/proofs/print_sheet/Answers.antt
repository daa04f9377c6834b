-- `print_sheet`: the player's number is 0, so what is read is the sheet's own card, land and state, and those are run.
use Rattle.std.proofs.Common.{ap, ◌∙◌, arith}
use Rattle.rules.specs.declared.Heard.{Heard}
use Rattle.rules.specs.Site.{state_length}
use Rattle.play.proofs.Numbers.{narrow, short, card_read, ground_read, state_read, played_run}
use Rattle.play.proofs.print_sheet.Goals as goal

pub print_run-requires-clause-sized : goal.print_run-requires-clause-sized
unfolding state_length
print_run-requires-clause-sized c =
    let l = c.args.sheet.now in
    let p = c.requires.cut in
    let card = ap (λ (h : Heard). h.card) (c.from-heard.ensures ∙ c.read_sheet.ensures.answer) ∙ card_read l p.number c.args.land.now c.args.state.now p.ground_words p.state_words in
    let kept = c.read_sheet.auto.state in
    record {
      narrow = rw card (narrow l p.number);
      short = rw card (short l p.number);
      held = rw card (omega (arith, p.state_words));
      space = omega arith;
    }

pub returns : goal.returns
returns c =
    let l = c.args.sheet.now in
    let p = c.requires.cut in
    let r = c.read_sheet.ensures in
    let card = ap (λ (h : Heard). h.card) (c.from-heard.ensures ∙ r.answer) ∙ card_read l p.number c.args.land.now c.args.state.now p.ground_words p.state_words in
    c.print_run.ensures
    ∙ played_run l _ _ _ _
    card
    (r.ground_exit ∙ ground_read l p.number _ _ p.ground_words p.state_words)
    (r.state_exit ∙ state_read l p.number _ _ p.ground_words p.state_words)
    p.scratch_words
