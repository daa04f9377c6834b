-- `head_fits`: a sheet of at least 19 bytes has the fields that the definition reads.
use Rattle.sheet.proofs.Heads.{head_short, head_long}
use Rattle.sheet.proofs.front.head_fits.Goals as goal

pub returns-then-sheet-lt19 : goal.returns-then-sheet-lt19
returns-then-sheet-lt19 c = head_short _ c.if-sheet-lt19.true

pub returns : goal.returns
returns c = head_long _ _ _ c.if-sheet-lt19.false c.number-named.ensures c.number-version.ensures
