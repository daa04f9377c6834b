-- `unsigned`: what stands behind a minus, or the whole word.
use mathlib.Core.Path.{sym, ◌∙◌}
use native.Mathlib.Omega.{arith}
use Rattle.raster_laws.specs.Sizes.{minus_some, unsigned_minus, unsigned_plain}
use Rattle.laws.specs.Parts.{back_is}
use Rattle.decimals.proofs.signs.unsigned.Goals as goal

pub slice_bounds-result-count : goal.slice_bounds-result-count
slice_bounds-result-count c = omega (arith, minus_some c.args.word.now (sym c.is_minus.ensures ∙ c.if-is_minus.true))

pub slice_bounds-result-start : goal.slice_bounds-result-start
slice_bounds-result-start c = omega (arith, minus_some c.args.word.now (sym c.is_minus.ensures ∙ c.if-is_minus.true))

pub returns-then-is_minus : goal.returns-then-is_minus
returns-then-is_minus c = let w = c.args.word.now in back_is 1 w ∙ sym (unsigned_minus w (sym c.is_minus.ensures ∙ c.if-is_minus.true))

pub returns-else-is_minus : goal.returns-else-is_minus
returns-else-is_minus c = let w = c.args.word.now in sym (unsigned_plain w (sym c.is_minus.ensures ∙ c.if-is_minus.false))
