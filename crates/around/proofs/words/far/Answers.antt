-- `far`: the far face lies in the grid, so that the cell's column and row are at most 128, and the word is read one place on.
use mathlib.Core.Path.{◌∙◌}
use native.Mathlib.Omega.{arith}
use Rattle.laws.specs.Signed.{word_is}
use Rattle.around.proofs.Around.{forth_more}
use Rattle.around.proofs.Places.{in_range}
use Rattle.around.proofs.words.far.Goals as goal
use Rattle.layout.specs.Ways.{across}

pub forth_column-requires : goal.forth_column-requires
forth_column-requires c = omega (arith, (in_range _ c.requires).0, forth_more c.args.way c.args.i)

pub forth_row-requires : goal.forth_row-requires
forth_row-requires c = omega (arith, (in_range _ c.requires).1, forth_more (across c.args.way) c.args.j)

pub returns : goal.returns
returns c =
    let n = c.face_at in
    word_is n.result n.type_inv (n.ensures ∙ rw (c.forth_column.ensures, c.forth_row.ensures))
