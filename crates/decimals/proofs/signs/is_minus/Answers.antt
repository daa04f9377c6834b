-- `is_minus`: the first byte, where there is one.
use mathlib.Core.Path.{◌∙◌}
use Rattle.raster_laws.specs.Sizes.{minus_in_front}
use Rattle.decimals.proofs.signs.is_minus.Goals as goal

pub returns : goal.returns
returns c = c.starts_with.ensures.value ∙ minus_in_front c.args.word.now
