-- `pumped_within`: how many words the room lacks. Where it calls itself, the next larger lists lack fewer.
use Rattle.std.proofs.Common.{◌-◌, length}
use Rattle.step.proofs.+pumped_within.Given as goal

abbrev pub decreases-pumped_within : goal.decreases-pumped_within
decreases-pumped_within g l = length l.next.now - l.room
