use Prim.Native.Nat.{◌<◌}
use native.Mathlib.Omega.{arith}
use lib.ListN.{length}
use Rattle.still.proofs.Rows.{none_marked, one_more, all_marked}
use Rattle.still.proofs.mark.Goals as goal

pub loop-j-init : goal.loop-j-init
loop-j-init c = none_marked

pub cells_still-requires : goal.cells_still-requires
cells_still-requires c = let p = c.requires in record { card = p.card; long = p.long; row = c.loop-j-test.true }

pub bounds-marks-j : goal.bounds-marks-j
bounds-marks-j c =
    let in_marks : c.loop-j.j < length c.loop-j.marks = let p = c.requires in omega (arith, p.room, c.loop-j.invariant.same, c.loop-j-test.true) in
    in_marks

pub loop-j-preserved : goal.loop-j-preserved
loop-j-preserved c =
    let in_marks : c.loop-j.j < length c.loop-j.marks = let p = c.requires in omega (arith, p.room, c.loop-j.invariant.same, c.loop-j-test.true) in
    one_more c.loop-j.invariant c.loop-j-test.true in_marks c.cells_still.ensures

pub returns : goal.returns
returns c = all_marked c.loop-j.invariant c.loop-j-test.false c.requires.room
