-- `read_then_write`: what the slice of the sheet holds are bytes, so that the round trip needs no more.
use Rattle.promises.specs.RoundTrips.{not_read, read_then_write_lem}
use Rattle.round_trips.proofs.read_then_write.Goals as goal

pub returns-then-number-ne0 : goal.returns-then-number-ne0
returns-then-number-ne0 c =
    let a = c.args in
    not_read a.sheet.now a.land.now a.state.now a.bytes.now c.water_read_sheet-heard.result _ _ c.water_read_sheet-heard.ensures c.if-number-ne0.true

pub returns : goal.returns
returns c =
    let a = c.args in
    read_then_write_lem a.sheet.now a.land.now a.state.now a.bytes.now c.water_read_sheet-heard.result _ _ c.water_read_sheet-heard.ensures
    (record { below = λ i. (c.shared_slice_known-1.given i).fits }) c.if-number-ne0.false c.water_write_sheet.result _ c.water_write_sheet.ensures
