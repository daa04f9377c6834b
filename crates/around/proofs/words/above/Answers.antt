-- `above`: the test is whether the next face abreast lies in the grid; where it does its velocity is read, and else it is 0.
use mathlib.Core.Path.{◌≡◌, ◌∙◌, sym}
use mathlib.Core.Bool.{◌&&◌}
use lib.Dec.{ltb}
use Rattle.layout.specs.Ways as Ways
use Rattle.layout.specs.Ways.{forth, across, pick}
use Rattle.laws.specs.Signed.{word_is}
use Rattle.layout.proofs.Pointing.{across_across}
use Rattle.around.proofs.Abreast.{above_is, above_in}
use Rattle.around.proofs.Places.{in_range}
use Rattle.around.proofs.words.above.Goals as goal

pub forth_column-column-requires : goal.forth_column-column-requires
forth_column-column-requires c = (in_range _ c.requires).0

pub forth_row-row-requires : goal.forth_row-row-requires
forth_row-row-requires c = (in_range _ c.requires).1

pub face_at-requires : goal.face_at-requires
face_at-requires c =
    let p = c.requires in
    record { card = p.card; long = p.long; face = above_in _ c.wide.ensures c.high.ensures c.if-column-wide.true }

pub returns-then-column-wide : goal.returns-then-column-wide
returns-then-column-wide c =
    let tested : let a = c.args in (ltb c.forth_column-column.result c.wide.result && ltb c.forth_row-row.result c.high.result) ≡ (ltb (forth (across a.way) a.i) (Ways.wide a.card a.way) && ltb (forth a.way a.j) (Ways.high a.card a.way)) = rw (c.forth_column-column.ensures, c.forth_row-row.ensures, c.across-across.ensures, across_across c.args.way, c.wide.ensures, c.high.ensures) in
    let n = c.face_at in
    let face = c.requires.face in
    word_is n.result n.type_inv
    (n.ensures
    ∙ rw (c.forth_column-column.ensures, c.forth_row-row.ensures, c.across-across.ensures, across_across c.args.way) (sym (above_is _ _ face ∙ rw (sym tested ∙ c.if-column-wide.true))))

pub returns : goal.returns
returns c =
    let tested : let a = c.args in (ltb c.forth_column-column.result c.wide.result && ltb c.forth_row-row.result c.high.result) ≡ (ltb (forth (across a.way) a.i) (Ways.wide a.card a.way) && ltb (forth a.way a.j) (Ways.high a.card a.way)) = rw (c.forth_column-column.ensures, c.forth_row-row.ensures, c.across-across.ensures, across_across c.args.way, c.wide.ensures, c.high.ensures) in
    sym (above_is _ _ c.requires.face ∙ rw (sym tested ∙ c.if-column-wide.false))
