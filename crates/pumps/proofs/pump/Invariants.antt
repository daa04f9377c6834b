-- `pump`: each turn finds a height, and leaves what the definition says; where it would pass the top, undoing gives the state as it was.
use Rattle.pumps.proofs.SoFar.{SoFar}
use Rattle.pumps.proofs.pump.Given as goal

abbrev pub invariant-loop-k : goal.invariant-loop-k
invariant-loop-k l = SoFar l.initial.state l.pumps l.initial.found l.state l.found l.acted.added l.acted.taken l.k
