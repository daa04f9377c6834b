-- `number`: one turn takes one byte more.
use Rattle.std.proofs.Common.{◌≡◌, ◌^◌, ◌<◌, drop}
use Rattle.rules.specs.Sheet.{number_in}
use Rattle.numbers.proofs.number.Given as goal

abbrev pub invariant-loop-byte : goal.invariant-loop-byte
invariant-loop-byte l = (l.n < 256 ^ l.byte-index) × (l.n ≡ number_in l.byte-index (drop l.at l.s))
