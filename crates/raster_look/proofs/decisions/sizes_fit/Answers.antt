-- `sizes_fit`: a side with a minus is in no range.
use mathlib.Core.Path.{ap}
use mathlib.Core.Bool.{Bool, ◌&&◌}
use Rattle.rules.specs.Site.{within}
use Rattle.raster_laws.specs.Decisions.{side_between}
use Rattle.raster_look.proofs.decisions.sizes_fit.Goals as goal

pub returns : goal.returns
returns c =
    rw (c.within-wide.ensures, c.within-high.ensures, c.within.ensures)
    (ap (λ (t : Bool). within 1 128 c.args.columns && within 1 128 c.args.rows && t) (side_between c.args.side.minus c.args.side.size))
