-- `digits_from`: each digit puts the number before it up by one place.
use Rattle.raster_laws.specs.Digits.{Reading}
use Rattle.decimals.proofs.counts.digits_from.Given as goal

abbrev pub invariant-loop-i : goal.invariant-loop-i
invariant-loop-i l = Reading l.word l.at l.number l.n l.i
