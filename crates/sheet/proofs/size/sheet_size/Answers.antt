-- `sheet_size`: the definition's own sum.
use mathlib.Core.Path.{refl}
use Rattle.rules.specs.Sheet.{sheet_size}
use Rattle.laws.specs.Sheets.{size_high}
use Rattle.sheet.proofs.size.sheet_size.Goals as goal

pub returns : goal.returns
unfolding sheet_size
returns c = (refl, size_high _ c.requires)
