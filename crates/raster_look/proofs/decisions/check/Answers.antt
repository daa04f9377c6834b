-- `check`: the first test that fails.
use Rattle.rules.specs.Site.{first_of}
use Rattle.raster_look.proofs.decisions.check.Goals as goal

pub returns-then-not-sizes : goal.returns-then-not-sizes
unfolding first_of
returns-then-not-sizes c = rw (c.if-not-raster.false, c.if-not-sizes.true)

pub returns-then-not-lengths : goal.returns-then-not-lengths
unfolding first_of
returns-then-not-lengths c = rw (c.if-not-raster.false, c.if-not-sizes.false, c.if-not-lengths.true)

pub returns-then-not-values : goal.returns-then-not-values
unfolding first_of
returns-then-not-values c = rw (c.if-not-raster.false, c.if-not-sizes.false, c.if-not-lengths.false, c.if-not-values.true)

pub returns : goal.returns
unfolding first_of
returns c = rw (c.if-not-raster.false, c.if-not-sizes.false, c.if-not-lengths.false, c.if-not-values.false)
