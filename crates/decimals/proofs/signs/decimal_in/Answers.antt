-- `decimal_in`: the size of the word without its minus; its sign in any case.
use mathlib.Core.Path.{sym, ap, ◌∙◌}
use Rattle.rules.specs.Raster.{unsigned_fits, size_of, is_decimal}
use Rattle.raster_laws.specs.Found.{has_passed, has_failed, is_that}
use Rattle.decimals.proofs.signs.decimal_in.Goals as goal

pub returns-in_default : goal.returns-in_default
unfolding is_decimal
returns-in_default c = rw (ap unsigned_fits (sym c.unsigned.ensures) ∙ has_failed _ _ c.in_default.ensures) (cc)

pub returns : goal.returns
unfolding is_decimal
returns c =
    let size = is_that _ _ c.in-Some.ensures ∙ ap size_of c.unsigned.ensures in
    rw (ap unsigned_fits (sym c.unsigned.ensures) ∙ has_passed _ _ c.in-Some.ensures) (cc)
