-- No water is made, and none is lost, but what pumps add and take. Document 02, [8], its first half: the sum of all heights after a step is that before. [10]: with pumps, the
-- sum after plus what was taken is the sum before plus what was added; so of a run, whatever stopped it, and of the public calls. Nothing is asked of what is given to
-- a run: it is so of a refused one, whose state is as it was. Without pumps nothing is added or taken, and the sum is kept.
use Rattle.std.specs.Prelude.{◌≡◌, ℤ, pos, ◌+ℤ◌}
use mathlib.Core.List.{List, []}
use Rattle.rules.specs.declared.Card.{Card}
use Rattle.rules.specs.Site.{sum_of_heights}
use Rattle.rules.specs.Pumps.{PumpedOutcome}

-- ---- The run

module _ (c : Card) (g s ps : List ℤ) where
  -- what is promised of a run's outcome: end sum plus taken equals start sum plus added
  abbrev pub Balances : PumpedOutcome → Type 0
  Balances o = sum_of_heights c o.state +ℤ pos o.tally.taken ≡ sum_of_heights c s +ℤ pos o.tally.added
