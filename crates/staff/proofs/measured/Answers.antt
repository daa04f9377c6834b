-- `measured`: a value at or above 0 has the answer of its product, and any other is refused.
use mathlib.Core.Path.{◌∙◌}
use borrow.Author.Rules.{rules}
use Rattle.laws.specs.NotBelow.{product_at_least_0}
use Rattle.laws.specs.Tests.{to_T}
use Rattle.staff.proofs.AtLeast0.{if_above}
use Rattle.staff.proofs.ByTheTest.{tested, below_0}
use Rattle.staff.proofs.measured.Goals as goal

-- above 0 is at or above 0 too: a test that leaves 0 out is refused for what it answers then
ruleset at_least_0s = (to_T, if_above, rules)

pub nearest-requires : goal.nearest-requires
nearest-requires c = product_at_least_0 _ _ (search rules) (search at_least_0s)

pub returns-then-value : goal.returns-then-value
returns-then-value c = c.nearest.ensures ∙ tested _ _ (search rules) (search at_least_0s)

pub returns : goal.returns
returns c = below_0 _ _ c.if-value.false
