-- `no_data_at`: the key for no data and its decimal, or the values at once.
use Rattle.raster_laws.specs.Fields.{no_data_some}
use Rattle.raster_laws.specs.Found.{has_passed}
use Rattle.decimals.specs.Values.{value_is, alone}
use Rattle.raster_head.proofs.fields.no_data_at.Goals as goal

pub returns : goal.returns
returns c = let e = alone _ c.decimal_in.ensures c.in_ok-ok.ensures.value in no_data_some c.in-Some.ensures (has_passed _ _ e) (value_is _ e)
