-- `change`: a word that is put at the first place of another, and where there is none, nothing.
use Rattle.std.proofs.Common.{sym, ◌∙◌}
use Rattle.pins_laws.specs.FirstPlace.{change_some, change_none}
use Rattle.pin_table.proofs.change.Goals as goal

pub returns-in-Some : goal.returns-in-Some
returns-in-Some c = change_some _ _ _ _ (sym c.first_place.ensures ∙ c.in-Some.is)

pub returns-in_default : goal.returns-in_default
returns-in_default c = change_none _ _ _ (sym c.first_place.ensures ∙ c.in_default.is)
