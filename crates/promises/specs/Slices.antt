-- A run of m + n steps is a run of m steps and then one of n from where it ended, with the two joined: a host may run in slices, show how far
-- it is, and get the same answer to the last micrometre. Here over any step; SiteSlices.antt says it of a site's run.
use Prim.Native.Nat.{ℕ, zero, suc, ◌+◌}
use Rattle.rules.specs.Grid.{max_z}
use Rattle.rules.specs.Run.{Progress, OutcomeOf}

-- ---- two runs joined, over any step; what a call reports of two is joined in SiteSlices.antt

-- how far a run came and one after it: steps added, the second's reason, the greater top
unfoldable pub both_progresses : Progress → Progress → Progress
both_progresses a b = record { steps = a.steps + b.steps; reason = b.reason; top = max_z a.top b.top }

unfoldable pub both_runs : {S : Type 0} → Progress → OutcomeOf S → OutcomeOf S
both_runs a o = record { progress = both_progresses a o.progress; state = o.state }

-- there is a second run where the first did all its steps
unfoldable pub joined_after : {S : Type 0} → (reason : ℕ) (first : OutcomeOf S) (second : S → OutcomeOf S) → OutcomeOf S
joined_after zero first second = both_runs first.progress (second first.state)
joined_after (suc r) first second = first

unfoldable pub joined : {S : Type 0} → (first : OutcomeOf S) (second : S → OutcomeOf S) → OutcomeOf S
joined first second = joined_after first.progress.reason first second
