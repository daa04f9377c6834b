-- `flow`: the limit gives what the transfers need, these the new heights, and their range the rest.
use mathlib.Core.Bool.{not}
use mathlib.Core.Path.{ap}
use borrow.Author.Rules.{rules}
use Rattle.advance.proofs.Answers.{tide_room, crossed, height_broken, flowing_of}
use Rattle.advance.proofs.flow.Goals as goal

pub transfers-requires : goal.transfers-requires
transfers-requires g c = search tide_room

pub heights-requires : goal.heights-requires
heights-requires g c = search crossed

pub returns-then-not-heights_fit : goal.returns-then-not-heights_fit
returns-then-not-heights_fit g c = height_broken _ (search rules) c.heights.ensures c.heights_fit.ensures (ap not c.if-not-heights_fit.true)

pub invariant_of-flow : goal.invariant_of-flow
invariant_of-flow g c = record { flowing = flowing_of _ (search rules) c.heights.ensures c.heights_fit.ensures (ap not c.if-not-heights_fit.false) (search rules) }
