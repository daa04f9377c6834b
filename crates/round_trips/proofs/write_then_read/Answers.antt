-- `write_then_read`: the reader is lent the bytes that were written, and no more.
use mathlib.Core.Path.{sym}
use Prim.Native.Nat.{◌≤◌}
use native.Mathlib.Omega.{arith}
use lib.ListN.{length}
use lib.Seq.{length-take-le}
use Rattle.promises.specs.RoundTrips.{not_written, size_room, write_then_read_lem}
use Rattle.round_trips.proofs.write_then_read.Goals as goal

pub returns-then-number-ne0 : goal.returns-then-number-ne0
returns-then-number-ne0 c =
    let a = c.args in
    not_written a.card a.land.now a.state.now a.bytes.now c.water_write_sheet-wrote.result _ c.water_write_sheet-wrote.ensures a.ground_back.now a.state_back.now
    c.no_card-none.result c.no_card-none.ensures c.if-number-ne0.true

pub slice_bounds-water_read_sheet-end : goal.slice_bounds-water_read_sheet-end
slice_bounds-water_read_sheet-end c =
    let inside : c.water_write_sheet-wrote.result.size ≤ length c.water_write_sheet-wrote.new.bytes = let a = c.args in
    let r = size_room a.card a.land.now a.state.now a.bytes.now c.water_write_sheet-wrote.result _ c.water_write_sheet-wrote.ensures a.ground_back.now a.state_back.now c.if-number-ne0.false in
    let k = c.water_write_sheet-wrote.auto.bytes in
    omega arith in
    inside

pub slice_bounds-water_read_sheet-end-2 : goal.slice_bounds-water_read_sheet-end-2
slice_bounds-water_read_sheet-end-2 c =
    let inside : c.water_write_sheet-wrote.result.size ≤ length c.water_write_sheet-wrote.new.bytes = let w = c in
    let a = w.args in
    let r = size_room a.card a.land.now a.state.now a.bytes.now w.water_write_sheet-wrote.result _ w.water_write_sheet-wrote.ensures a.ground_back.now a.state_back.now c.if-number-ne0.false in
    let k = w.water_write_sheet-wrote.auto.bytes in
    omega arith in
    let e = c in
    let w = e in
    sym (length-take-le w.water_write_sheet-wrote.result.size w.water_write_sheet-wrote.new.bytes inside)

pub returns : goal.returns
returns c =
    let a = c.args in
    write_then_read_lem a.card a.land.now a.state.now a.bytes.now c.water_write_sheet-wrote.result _ c.water_write_sheet-wrote.ensures a.ground_back.now a.state_back.now
    c.if-number-ne0.false c.water_read_sheet.result _ _ c.water_read_sheet.ensures
