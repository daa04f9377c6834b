-- `steps`: at each turn the site is sound, and the steps that are left lead from tally and state to the run's outcome.
use mathlib.Core.Path.{◌≡◌}
use lib.ListN.{length}
use Rattle.rules.specs.Site.{state_length}
use Rattle.steps.proofs.Loop.{Running}
use Rattle.steps.proofs.steps.Given as goal

abbrev pub invariant-loop : goal.invariant-loop
invariant-loop l = Running l.card l.land l.initial.state l.pumps l.state l.tally l.counter × (length l.scratch ≡ state_length l.card) × (length l.tide ≡ state_length l.card) × (length l.found ≡ 64)
