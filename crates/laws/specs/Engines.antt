-- The rule of an engine, by what its type says of itself: whether it is the textbook's.
use Rattle.std.specs.Prelude.{Bool, cond, ℤ}
use Rattle.rules.specs.declared.Face.{Face}
use Rattle.rules.specs.Step.{Rule, rise, new_velocity_by}
use Rattle.rules.specs.Textbook.{textbook_rise}

abbrev pub rise_of : (textbook : Bool) → Face → ℤ
rise_of textbook = cond textbook textbook_rise rise

abbrev pub engine : (textbook : Bool) → Rule
engine textbook = new_velocity_by (rise_of textbook)
