-- `count_at`: a key, and behind it a count.
use Rattle.raster_laws.specs.Fields.{count_not, count_none, count_some}
use Rattle.raster_laws.specs.Found.{has_passed, has_failed, is_that}
use Rattle.raster_head.proofs.fields.count_at.Goals as goal

pub returns-in_err-word : goal.returns-in_err-word
returns-in_err-word c = rw c.from_residual.ensures (count_not c.args.text.now c.args.at c.args.key.now c.in_err-word.ensures)

pub returns-in_err-count_in : goal.returns-in_err-count_in
returns-in_err-count_in c = rw c.from_residual-in_err-count_in.ensures (count_none c.in_ok-word.ensures (has_failed _ _ c.in_err-count_in.ensures))

pub returns : goal.returns
returns c = let e = c.in_ok-count_in.ensures in count_some c.in_ok-word.ensures (has_passed _ _ e) (is_that _ _ e)
