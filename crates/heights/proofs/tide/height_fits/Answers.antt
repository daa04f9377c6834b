-- `height_fits`: the word that is read is the height, and the test is the definition's.
use Rattle.laws.specs.Signed.{word_is}
use Rattle.heights.proofs.tide.height_fits.Goals as goal

pub returns : goal.returns
returns c = rw (word_is c.height_at-h.result c.height_at-h.type_inv c.height_at-h.ensures)
