-- `scaled`: each place that is not written takes the number up by one.
use Rattle.raster_laws.specs.Digits.{Scaling}
use Rattle.decimals.proofs.sizes.scaled.Given as goal

abbrev pub invariant-loop-k : goal.invariant-loop-k
invariant-loop-k l = Scaling l.number l.places l.n l.k
