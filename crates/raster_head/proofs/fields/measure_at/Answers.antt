-- `measure_at`: a key, and behind it a decimal.
use Rattle.raster_laws.specs.Fields.{measure_not, measure_none, measure_some}
use Rattle.raster_laws.specs.Found.{has_passed, has_failed}
use Rattle.decimals.specs.Values.{value_is, alone}
use Rattle.raster_head.proofs.fields.measure_at.Goals as goal

pub returns-in_err-word : goal.returns-in_err-word
returns-in_err-word c = rw c.from_residual.ensures (measure_not c.args.text.now c.args.at c.args.key.now c.in_err-word.ensures)

pub returns-in_err-ok : goal.returns-in_err-ok
returns-in_err-ok c =
    let e = alone _ c.decimal_in.ensures c.in_err-ok.ensures.value in
    rw c.from_residual-in_err-ok.ensures (measure_none c.in_ok-word.ensures (has_failed _ _ e))

pub returns : goal.returns
returns c = let e = alone _ c.decimal_in.ensures c.in_ok-ok.ensures.value in measure_some c.in_ok-word.ensures (has_passed _ _ e) (value_is _ e)
