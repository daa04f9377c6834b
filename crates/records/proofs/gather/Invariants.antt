-- `gather`: behind i turns the first i chambers are laid.
use Rattle.std.proofs.Common.{◌≡◌}
use Rattle.records.specs.Row.{gathered}
use Rattle.records.proofs.gather.Given as goal

abbrev pub invariant-loop-i : goal.invariant-loop-i
invariant-loop-i l = l.both ≡ gathered l.row l.i
