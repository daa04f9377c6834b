-- `walls_still`: the four walls where they stand in the flat list.
use Prim.Native.Nat.{◌+◌}
use mathlib.Core.Path.{◌∙◌}
use native.Mathlib.Omega.{arith}
use Rattle.laws.specs.Facts.{card_facts}
use Rattle.laws.specs.Strides.{strides, state_words, a_row}
use Rattle.laws.specs.Values.{walls_flat}
use Rattle.walls.proofs.walls_still.Goals as goal

pub pairs_still-sides-requires : goal.pairs_still-sides-requires
pairs_still-sides-requires g c =
    let l = c.requires.words ∙ state_words c.args.card in
    let row = a_row c.args.card c.requires.card (c.args.card.columns + 1) in
    record { within = strides (omega arith) (omega arith); short = omega (arith, card_facts _ c.requires.card) }

pub pairs_still-ends-requires : goal.pairs_still-ends-requires
pairs_still-ends-requires g c =
    let l = c.requires.words ∙ state_words c.args.card in
    let row = a_row c.args.card c.requires.card c.args.card.columns in
    record { within = strides (omega arith) (omega arith); short = omega (arith, card_facts _ c.requires.card) }

pub returns : goal.returns
returns g c = cc (walls_flat _ (g.W.Words.words c.args.state), c.pairs_still-sides.ensures, c.pairs_still-ends.ensures)
