-- `height_fits`: between 0 and 50,000,000.
use mathlib.Core.Path.{◌∙◌}
use mir.Facts.{to_z-of_z}
use Rattle.values.proofs.height_fits.Goals as goal

pub returns : goal.returns
returns c = c.is_between.ensures ∙ simp (to_z-of_z c.ranges.h)
