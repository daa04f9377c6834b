-- `run_within`: how many words the room lacks. Where it calls itself, the longest tide lacks fewer.
use Rattle.std.proofs.Common.{◌-◌, length}
use Rattle.run.proofs.+run_within.Given as goal

abbrev pub decreases-run_within : goal.decreases-run_within
decreases-run_within l = length l.state.now - l.room
