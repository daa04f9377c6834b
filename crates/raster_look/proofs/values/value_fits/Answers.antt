-- `value_fits`: the size decides for the range.
use mathlib.Core.Path.{sym, ap₂}
use Prim.Native.Nat.{ℕ}
use mathlib.Core.Bool.{Bool, not, ◌&&◌}
use lib.Dec.{leb}
use Rattle.raster_laws.specs.Looks.{size_signed}
use Rattle.raster_look.proofs.values.value_fits.Goals as goal

pub returns : goal.returns
returns c = ap₂ (λ (n : ℕ) (t : Bool). leb n 50000000 && not t) (sym (size_signed c.args.value.minus c.args.value.size)) c.is_given.ensures
