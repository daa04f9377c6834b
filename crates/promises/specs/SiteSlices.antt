-- A site's run in slices: the cards want m + n, m and n steps. The totals of the two runs are added up.
use Prim.Native.Nat.{ℕ, zero, suc, ◌+◌}
use Rattle.std.specs.Prelude.{List, ℤ}
use Rattle.rules.specs.declared.Tally.{Tally}
use Rattle.rules.specs.Pumps.{progress_of, tally_of, PumpedOutcome}
use Rattle.promises.specs.Slices.{both_progresses}

-- ---- what is promised

-- the tally of a run and of one after it: steps added, the second's reason, the greater top, what was added and taken added up
unfoldable pub both_tallies : Tally → Tally → Tally
both_tallies a b = tally_of (both_progresses (progress_of a) (progress_of b)) (a.added + b.added) (a.taken + b.taken)

-- the first run and, where its reason is 0, the second from the state in which the first ended; where the first was stopped, the first alone
unfoldable pub runs_joined_after : (reason : ℕ) (first : PumpedOutcome) (second : (state : List ℤ) → PumpedOutcome) → PumpedOutcome
runs_joined_after zero first second = let o = second first.state in record { tally = both_tallies first.tally o.tally; state = o.state }
runs_joined_after (suc r) first second = first

unfoldable pub runs_joined : (first : PumpedOutcome) (second : (state : List ℤ) → PumpedOutcome) → PumpedOutcome
runs_joined first second = runs_joined_after first.tally.reason first second
