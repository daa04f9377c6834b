-- `word_at`: the value of the four bytes there.
use mathlib.Core.Path.{ap, ◌∙◌}
use mir.Syntax.{w32}
use mir.ValLaws.{to_z-of_z}
use Rattle.rules.specs.Sheet.{value_of}
use Rattle.laws.specs.Words.{word_at}
use Rattle.words.proofs.word_at.Goals as goal

pub returns : goal.returns
unfolding word_at
returns c = to_z-of_z w32 c.value_of.result (record { sfits = c.value_of.type_inv }) ∙ c.value_of.ensures ∙ ap value_of c.word.ensures
