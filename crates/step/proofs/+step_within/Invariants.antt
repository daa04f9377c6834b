-- `step_within`: how many words the room lacks. Where it calls itself, the next larger lists lack fewer.
use Rattle.std.proofs.Common.{◌-◌, length}
use Rattle.step.proofs.+step_within.Given as goal

abbrev pub decreases-step_within : goal.decreases-step_within
decreases-step_within g l = length l.next.now - l.room
