-- `below`: the picked number is above 0 exactly where there is a face before, whose velocity is read; else it is 0.
use Prim.Native.Nat.{◌<◌}
use mathlib.Core.Path.{◌∙◌, sym}
use borrow.Author.Tests.{lt-ltb, le-ltb}
use Rattle.laws.specs.Signed.{word_is}
use Rattle.layout.proofs.Pointing.{across_across, across_east, across_north}
use Rattle.around.proofs.Abreast.{below_in, below_is}
use Rattle.around.proofs.Around.{picked}
use Rattle.around.proofs.words.below.Goals as goal
use Rattle.layout.specs.Ways.{pick}

pub back_column-requires : goal.back_column-requires
back_column-requires c =
    let there : let a = c.args in 0 < pick a.way a.j a.i = rw c.pick.ensures at c.if-pick-gt0.true in
    let a = c.args in λ e. (picked a.way a.j a.i there).1 (across_east a.way (sym c.across-across.ensures ∙ e))

pub back_row-requires : goal.back_row-requires
back_row-requires c =
    let there : let a = c.args in 0 < pick a.way a.j a.i = rw c.pick.ensures at c.if-pick-gt0.true in
    let a = c.args in λ e. (picked a.way a.j a.i there).0 (across_north a.way (sym c.across-across.ensures ∙ e))

pub face_at-requires : goal.face_at-requires
face_at-requires c =
    let p = c.requires in
    record { card = p.card; long = p.long; face = rw (c.back_column.ensures, c.back_row.ensures, c.across-across.ensures, across_across c.args.way) (below_in _ p.face) }

pub returns-then-pick-gt0 : goal.returns-then-pick-gt0
returns-then-pick-gt0 c =
    let there : let a = c.args in 0 < pick a.way a.j a.i = rw c.pick.ensures at c.if-pick-gt0.true in
    let n = c.face_at in
    word_is n.result n.type_inv
    (n.ensures ∙ rw (c.back_column.ensures, c.back_row.ensures, c.across-across.ensures, across_across c.args.way) (sym (below_is _ _ _ _ ∙ rw (lt-ltb _ _ there))))

pub returns : goal.returns
returns c = sym (below_is _ _ _ _ ∙ rw (← c.pick.ensures, le-ltb _ _ c.if-pick-gt0.false))
