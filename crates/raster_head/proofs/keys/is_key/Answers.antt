-- `is_key`: as long, and the same letters.
use mathlib.Core.Path.{◌∙◌}
use borrow.Author.Tests.{ne_eqb}
use Rattle.raster_laws.specs.Keys.{other_length, same_length}
use Rattle.raster_head.proofs.keys.is_key.Goals as goal

pub returns-then-key-word : goal.returns-then-key-word
returns-then-key-word c = c.same_letters.ensures ∙ same_length c.args.key.now c.args.word.now c.if-key-word.true

pub returns-else-key-word : goal.returns-else-key-word
returns-else-key-word c = ne_eqb _ _ c.if-key-word.false ∙ other_length c.args.key.now c.args.word.now c.if-key-word.false
