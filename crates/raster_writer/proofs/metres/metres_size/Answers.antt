-- `metres_size`: one digit before the point, or two.
use mathlib.Core.Path.{sym}
use Rattle.raster_writer.proofs.Lengths.{short_metres, long_metres}
use Rattle.raster_writer.proofs.metres.metres_size.Goals as goal

pub returns-then-n-lt10000000 : goal.returns-then-n-lt10000000
returns-then-n-lt10000000 c = sym (short_metres c.args.n c.if-n-lt10000000.true)

pub returns : goal.returns
returns c = sym (long_metres c.args.n c.if-n-lt10000000.false c.requires)
