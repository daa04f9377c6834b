-- `word_start`: what is passed over has no word.
use mathlib.Core.Path.{ap, ◌∙◌}
use mathlib.Core.List.{List}
use Prim.Native.Nat.{ℕ}
use lib.ListN.{length}
use Rattle.std.specs.List.{take_while}
use Rattle.rules.specs.Raster.{parts_words}
use Rattle.laws.specs.Parts.{back_is}
use Rattle.raster_laws.specs.Words.{skip_over}
use Rattle.text_words.proofs.word_start.Goals as goal

pub returns : goal.returns
returns c = let s = c.args in skip_over s.text.now s.at c.requires (c.parting.ensures ∙ ap (λ (l : List ℕ). length (take_while parts_words l)) (back_is s.at s.text.now))
