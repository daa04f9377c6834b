-- `play_number`: the length, the reader's own refusal, the size.
use mathlib.Core.Path.{◌≡◌, sym, ap, ◌∙◌}
use native.Mathlib.Omega.{arith}
use Rattle.std.proofs.Common.{rules}
use Rattle.rules.specs.Refusals.{refusal_number, outcome_number}
use Rattle.rules.specs.Play.{own_number}
use Rattle.laws.specs.Sheets.{read_facts}
use Rattle.play_number.proofs.Numbers.{small, number_long, number_own, number_small, number_large}
use Rattle.play_number.proofs.play_number.Goals as goal

pub returns-then-input-gt16659 : goal.returns-then-input-gt16659
returns-then-input-gt16659 c = number_long c.args.input.now (omega (arith, c.if-input-gt16659.true))

pub returns-in_err-own_number : goal.returns-in_err-own_number
unfolding own_number
returns-in_err-own_number c =
    let same : outcome_number c.from_residual.result ≡ refusal_number c.in_err-own_number.field-0.0 = search rules in
    same ∙ number_own c.args.input.now c.if-input-gt16659.false _ c.in_err-own_number.ensures

pub card_in-card-requires : goal.card_in-card-requires
card_in-card-requires c = (read_facts _ _ _ (sym c.in_ok-own_number.ensures)).head.long

pub returns-then-not-small : goal.returns-then-not-small
unfolding own_number
returns-then-not-small c = number_large c.args.input.now c.if-input-gt16659.false c.in_ok-own_number.ensures (ap small (sym c.card_in-card.ensures) ∙ c.if-not-small.true)

pub returns : goal.returns
unfolding own_number
returns c = number_small c.args.input.now c.if-input-gt16659.false c.in_ok-own_number.ensures (ap small (sym c.card_in-card.ensures) ∙ c.if-not-small.false)
