-- `height_at`: the heights stand first in a state, row by row, so that a cell's place lies in the list and its word is the height.
use mathlib.Core.Path.{◌∙◌}
use Rattle.laws.specs.Signed.{word_is}
use Rattle.laws.specs.Places.{height_in, height_read}
use Rattle.layout.proofs.words.height_at.Goals as goal

pub word-requires : goal.word-requires
word-requires c = height_in _ c.requires.long c.requires.column c.requires.row

pub returns : goal.returns
returns c = word_is c.word.result c.word.type_inv (c.word.ensures ∙ height_read _ _ _ _)
