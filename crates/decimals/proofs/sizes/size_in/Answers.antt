-- `size_in`: the digits in front, and what stands behind them.
use mathlib.Core.Path.{sym, ◌∙◌}
use Rattle.raster_laws.specs.Sizes.{long_no, no_whole, whole_fits, whole_behind, size_is}
use Rattle.raster_laws.specs.Found.{kept_back}
use Rattle.decimals.proofs.sizes.size_in.Goals as goal

pub returns-then-word-gt19 : goal.returns-then-word-gt19
returns-then-word-gt19 c = kept_back _ _ (long_no c.args.word.now c.if-word-gt19.true)

pub returns-then-not-one_to : goal.returns-then-not-one_to
returns-then-not-one_to c = kept_back _ _ (no_whole c.args.word.now c.digits_from-whole.ensures (sym c.one_to.ensures ∙ c.if-not-one_to.true))

pub fraction_from-requires : goal.fraction_from-requires
fraction_from-requires c = whole_behind c.args.word.now c.digits_from-whole.ensures c.if-word-gt19.false (sym c.one_to.ensures ∙ c.if-not-one_to.false)

pub returns : goal.returns
returns c = let d = c.digits_from-whole.ensures in let w = c.args.word.now in rw (whole_fits w d (sym c.one_to.ensures ∙ c.if-not-one_to.false), size_is w d) c.fraction_from.ensures
