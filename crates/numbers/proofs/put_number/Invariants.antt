-- `put_number`: what is still to be laid would complete the field at every turn.
use Rattle.std.proofs.Common.{◌≡◌}
use Rattle.rules.specs.Sheet.{bytes_of}
use Rattle.laws.specs.Laid.{laid}
use Rattle.numbers.proofs.put_number.Given as goal

abbrev pub invariant-loop-i : goal.invariant-loop-i
invariant-loop-i l = laid l.out l.at (bytes_of l.i l.rest) ≡ laid l.initial.out l.at (bytes_of l.k l.n)
