-- `put_places`: seven bytes, each behind the one before.
use Prim.Native.Nat.{◌+◌, ◌/◌, ◌%◌}
use Rattle.raster_writer.proofs.Laws.{seven}
use Rattle.raster_writer.proofs.metres.put_places.Goals as goal

pub returns : goal.returns
returns c = seven c.args.out.now c.args.at 46 (48 + c.args.n / 100000 % 10) (48 + c.args.n / 10000 % 10) (48 + c.args.n / 1000 % 10) (48 + c.args.n / 100 % 10) (48 + c.args.n / 10 % 10) (48 + c.args.n % 10) c.requires
