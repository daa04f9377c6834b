-- `is_same`: equal sizes, and equal signs where they are not 0.
use Rattle.raster_laws.specs.Looks.{same_value}
use Rattle.raster_look.proofs.values.is_same.Goals as goal

pub returns : goal.returns
returns c = same_value c.args.value.minus c.args.value.size c.args.other.minus c.args.other.size
