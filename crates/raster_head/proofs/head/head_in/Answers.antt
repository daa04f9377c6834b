-- `head_in`: each key stands behind the one before it.
use Rattle.raster_laws.specs.Heads.{no_columns, no_rows, no_west, no_south, no_side, no_value, headed}
use Rattle.raster_head.proofs.head.head_in.Goals as goal

pub returns-in_err-columns : goal.returns-in_err-columns
returns-in_err-columns c = rw c.from_residual.ensures (no_columns _ c.in_err-columns.ensures)

pub returns-in_err-rows : goal.returns-in_err-rows
returns-in_err-rows c = rw c.from_residual-in_err-rows.ensures (no_rows _ c.in_ok-columns.ensures c.in_err-rows.ensures)

pub returns-in_err-at : goal.returns-in_err-at
returns-in_err-at c = rw c.from_residual-in_err-at.ensures (no_west _ c.in_ok-columns.ensures c.in_ok-rows.ensures c.in_err-at.ensures)

pub returns-in_err-at-2 : goal.returns-in_err-at-2
returns-in_err-at-2 c = rw c.from_residual-in_err-at-2.ensures (no_south _ c.in_ok-columns.ensures c.in_ok-rows.ensures c.in_ok-at.ensures c.in_err-at-2.ensures)

pub returns-in_err-side : goal.returns-in_err-side
returns-in_err-side c = rw c.from_residual-in_err-side.ensures (no_side _ c.in_ok-columns.ensures c.in_ok-rows.ensures c.in_ok-at.ensures c.in_ok-at-2.ensures c.in_err-side.ensures)

pub returns-in_err-no_data : goal.returns-in_err-no_data
returns-in_err-no_data c =
    rw c.from_residual-in_err-no_data.ensures
    (no_value _ c.in_ok-columns.ensures c.in_ok-rows.ensures c.in_ok-at.ensures c.in_ok-at-2.ensures c.in_ok-side.ensures c.in_err-no_data.ensures)

pub returns : goal.returns
returns c = headed _ c.in_ok-columns.ensures c.in_ok-rows.ensures c.in_ok-at.ensures c.in_ok-at-2.ensures c.in_ok-side.ensures c.in_ok-no_data.ensures
