-- `word_end`: a word goes on as long as no byte parts it from the next.
use mathlib.Core.Path.{ap, ◌∙◌}
use mathlib.Core.Bool.{not}
use mathlib.Core.List.{List}
use Prim.Native.Nat.{ℕ}
use lib.ListN.{length}
use Rattle.std.specs.List.{take_while}
use Rattle.rules.specs.Raster.{parts_words}
use Rattle.laws.specs.Parts.{back_is}
use Rattle.raster_laws.specs.Words.{spell_out}
use Rattle.text_words.proofs.word_end.Goals as goal

pub returns : goal.returns
returns c =
    let s = c.args in
    spell_out s.text.now s.at c.requires (c.spelling.ensures ∙ ap (λ (l : List ℕ). length (take_while (λ (b : ℕ). not (parts_words b)) l)) (back_is s.at s.text.now))
