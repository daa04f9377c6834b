-- `values_number`: refused where the values fail, and not where all passed.
use mathlib.Core.Path.{sym, ◌∙◌}
use native.Mathlib.Omega.{arith}
use Rattle.laws.specs.Sheets.{head_facts}
use Rattle.sheet_reader.proofs.Reading.{number_3, number_0}
use Rattle.sheet_reader.proofs.Looking.{held, sized, same_values}
use Rattle.sheet_reader.proofs.look.values_number.Goals as goal

pub card_in-card-requires : goal.card_in-card-requires
card_in-card-requires c = (head_facts _ c.requires.head).long

pub invariant_of-land : goal.invariant_of-land
invariant_of-land c = record { held = omega (arith, held _ c.requires c.card_in-card.ensures c.cells-n.ensures.0 c.state_length-m.ensures.0) }

pub invariant_of-state : goal.invariant_of-state
invariant_of-state c = record { held = omega (arith, held _ c.requires c.card_in-card.ensures c.cells-n.ensures.0 c.state_length-m.ensures.0) }

pub values_fit-requires : goal.values_fit-requires
values_fit-requires c = sized _ c.requires c.card_in-card.ensures c.cells-n.ensures.0 c.state_length-m.ensures.0

pub returns-then-not-values_fit : goal.returns-then-not-values_fit
returns-then-not-values_fit c =
    let same = same_values _ c.requires c.card_in-card.ensures c.cells-n.ensures.0 c.state_length-m.ensures.0 in
    number_3 _ _ _ c.requires (sym (c.values_fit.ensures ∙ same) ∙ c.if-not-values_fit.true)

pub returns : goal.returns
returns c =
    let same = same_values _ c.requires c.card_in-card.ensures c.cells-n.ensures.0 c.state_length-m.ensures.0 in
    number_0 _ _ _ c.requires (sym (c.values_fit.ensures ∙ same) ∙ c.if-not-values_fit.false)
