-- `main`: what was read lies in front, and each turn reads some more, so that room is left for less.
use Rattle.std.proofs.Common.{◌-◌, ◌≤◌}
use Rattle.sheet_player.proofs.main.Given as goal

abbrev pub invariant-loop-n : goal.invariant-loop-n
invariant-loop-n l = l.n ≤ 16660

abbrev pub decreases-loop-n : goal.decreases-loop-n
decreases-loop-n l = 16660 - l.n
