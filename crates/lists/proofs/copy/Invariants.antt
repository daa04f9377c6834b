-- `copy`: behind k turns the first k words are those of the other list, and the rest is as lent.
use Rattle.laws.specs.Copies.{Copied}
use Rattle.lists.proofs.copy.Given as goal

abbrev pub invariant-loop-k : goal.invariant-loop-k
invariant-loop-k l = Copied l.from l.initial.to l.to l.k
