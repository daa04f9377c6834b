use mathlib.Core.Path.{sym, ◌∙◌}
use Prim.Native.Nat.{◌/◌, ◌<◌}
use native.Mathlib.Omega.{arith}
use Rattle.laws.specs.Gather.{gather_none, gather_more, gather_all}
use Rattle.layout.specs.Ways.{wide}
use Rattle.still.specs.Rows.{row_still}
use Rattle.still.proofs.Rows.{row_moves, middle_in}
use Rattle.still.proofs.row_still.Goals as goal

pub face_still-requires : goal.face_still-requires
face_still-requires c =
    let middle : c.wide-wide.result / 2 < wide c.args.card c.args.way = rw c.wide-wide.ensures (middle_in _ _ c.requires.card) in
    let p = c.requires in record { card = p.card; long = p.long; face = record { column = middle; row = p.row } }

pub returns-then-not-face_still : goal.returns-then-not-face_still
returns-then-not-face_still c =
    let middle : c.wide-wide.result / 2 < wide c.args.card c.args.way = rw c.wide-wide.ensures (middle_in _ _ c.requires.card) in
    row_moves _ _ _ _ _ middle (sym c.face_still.ensures ∙ c.if-not-face_still.true)

pub loop-i-init : goal.loop-i-init
loop-i-init c = gather_none

pub face_still-still-requires : goal.face_still-still-requires
face_still-still-requires c =
    let p = c.requires in
    record { card = p.card; long = p.long; face = record { column = omega (arith, c.wide-wide.ensures); row = p.row } }

pub loop-i-preserved : goal.loop-i-preserved
loop-i-preserved c = gather_more c.loop-i.invariant (omega arith) c.face_still-still.ensures

pub returns : goal.returns
unfolding row_still
returns c = rw (← c.wide-wide.ensures) (gather_all c.loop-i.invariant c.loop-i-test.false)
