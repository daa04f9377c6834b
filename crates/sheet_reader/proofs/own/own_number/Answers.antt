-- `own_number`: the lists have the lengths that the header asks for.
use mathlib.Core.Path.{◌≡◌, sym, ap, ◌∙◌}
use Rattle.std.proofs.Common.{rules}
use Rattle.rules.specs.declared.refusals.Refusal.TheVariants.{Sheet, Card}
use Rattle.rules.specs.Refusals.{refusal_number, outcome_number}
use Rattle.rules.specs.Site.{cells, state_length, card_fits}
use Rattle.rules.specs.Sheet.{card_in, read_number}
use Rattle.laws.specs.Sheets.{head_facts}
use Rattle.laws.specs.Refusing.{number-ne0}
use Rattle.sheet.specs.Front.{front_9, front_1, front_told, front_facts}
use Rattle.sheet_reader.proofs.Reading.{front_own}
use Rattle.sheet_reader.proofs.own.own_number.Goals as goal

pub returns-then-not-head_fits : goal.returns-then-not-head_fits
returns-then-not-head_fits c = front_told _ _ _ (number-ne0 Sheet) (front_9 _ _ _ (sym c.head_fits.ensures ∙ c.if-not-head_fits.true))

pub card_in-card-requires : goal.card_in-card-requires
card_in-card-requires c = (head_facts _ (sym c.head_fits.ensures ∙ c.if-not-head_fits.false)).long

pub returns-then-not-card_fits : goal.returns-then-not-card_fits
returns-then-not-card_fits c =
    front_told _ _ _ (number-ne0 Card) (front_1 _ _ _ (sym c.head_fits.ensures ∙ c.if-not-head_fits.false) (ap card_fits (sym c.card_in-card.ensures) ∙ sym c.card_fits.ensures ∙ c.if-not-card_fits.true))

pub returns-in_err-front_number : goal.returns-in_err-front_number
returns-in_err-front_number c =
    let same : outcome_number c.from_residual.result ≡ refusal_number c.in_err-front_number.field-0.0 = search rules in
    let l = c.args.sheet.now in
    let own : read_number l c.cells.result c.state_length.result ≡ read_number l (cells (card_in l)) (state_length (card_in l)) =
    cc (c.state_length.ensures.0, c.cells.ensures.0, c.card_in-card.ensures) in
    same ∙ front_told _ _ _ (number-ne0 _) c.in_err-front_number.ensures ∙ own

pub values_number-requires : goal.values_number-requires
values_number-requires c = front_own _ _ _ (front_facts _ _ _ (sym c.in_ok-front_number.ensures))
