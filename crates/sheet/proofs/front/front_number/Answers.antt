-- `front_number`: each refusal is given where its test is the first that fails.
use mathlib.Core.Path.{sym, ap, ◌∙◌}
use Rattle.rules.specs.Site.{card_fits}
use Rattle.laws.specs.Sheets.{head_facts}
use Rattle.sheet.specs.Front.{front_9, front_1, front_2, front_0}
use Rattle.sheet.proofs.Heads.{lengths_test}
use Rattle.sheet.proofs.front.front_number.Goals as goal

pub returns-then-not-head_fits : goal.returns-then-not-head_fits
returns-then-not-head_fits c = front_9 _ _ _ (sym c.head_fits.ensures ∙ c.if-not-head_fits.true)

pub card_in-card-requires : goal.card_in-card-requires
card_in-card-requires c = (head_facts _ (sym c.head_fits.ensures ∙ c.if-not-head_fits.false)).long

pub returns-then-not-card_fits : goal.returns-then-not-card_fits
returns-then-not-card_fits c =
    front_1 _ _ _ (sym c.head_fits.ensures ∙ c.if-not-head_fits.false) (ap card_fits (sym c.card_in-card.ensures) ∙ sym c.card_fits.ensures ∙ c.if-not-card_fits.true)

pub returns-then-not-fits : goal.returns-then-not-fits
returns-then-not-fits c =
    let card = ap card_fits (sym c.card_in-card.ensures) ∙ sym c.card_fits.ensures ∙ c.if-not-card_fits.false in
    let lengths = lengths_test c.args.sheet.now c.args.n c.args.m c.card_in-card.result c.card_in-card.ensures c.sheet_size.ensures.0 c.cells.ensures.0 c.state_length.ensures.0 in
    front_2 _ _ _ (sym c.head_fits.ensures ∙ c.if-not-head_fits.false) card (sym lengths ∙ c.if-not-fits.true)

pub returns : goal.returns
returns c =
    let card = ap card_fits (sym c.card_in-card.ensures) ∙ sym c.card_fits.ensures ∙ c.if-not-card_fits.false in
    let lengths = lengths_test c.args.sheet.now c.args.n c.args.m c.card_in-card.result c.card_in-card.ensures c.sheet_size.ensures.0 c.cells.ensures.0 c.state_length.ensures.0 in
    front_0 _ _ _ (sym c.head_fits.ensures ∙ c.if-not-head_fits.false) card (sym lengths ∙ c.if-not-fits.false)
