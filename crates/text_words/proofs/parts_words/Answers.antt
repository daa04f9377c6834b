-- `parts_words`: the four bytes of the definition.
use mathlib.Core.Path.{refl}
use Rattle.rules.specs.Raster.{parts_words}
use Rattle.text_words.proofs.parts_words.Goals as goal

pub returns : goal.returns
unfolding parts_words
returns c = refl
