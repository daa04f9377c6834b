-- `name_at`: the word behind a key that stands there.
use mathlib.Core.Path.{sym, ◌∙◌}
use Rattle.raster_laws.specs.Fields.{not_named, is_named}
use Rattle.raster_head.proofs.fields.name_at.Goals as goal

pub returns-then-not-is_key : goal.returns-then-not-is_key
returns-then-not-is_key c = not_named c.args.key.now c.next_word-name.ensures (sym c.is_key.ensures ∙ c.if-not-is_key.true)

pub returns : goal.returns
returns c = is_named c.args.key.now c.next_word-name.ensures (sym c.is_key.ensures ∙ c.if-not-is_key.false) c.next_word-value.ensures
