use native.Mathlib.Omega.{arith}
use Rattle.raster_laws.specs.Digits.{scale_none, scale_more, scale_all, scale_fits}
use Rattle.decimals.proofs.sizes.scaled.Goals as goal

pub loop-k-init : goal.loop-k-init
loop-k-init c = scale_none c.requires.0 c.requires.1

pub overflow_mul-n : goal.overflow_mul-n
overflow_mul-n c = omega (arith, scale_fits c.loop-k.invariant c.loop-k-test.true)

pub loop-k-preserved : goal.loop-k-preserved
loop-k-preserved c = scale_more c.loop-k.invariant c.loop-k-test.true

pub returns : goal.returns
returns c = scale_all c.loop-k.invariant c.loop-k-test.false
