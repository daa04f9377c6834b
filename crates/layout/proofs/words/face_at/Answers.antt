-- `face_at`: a face's place by the start and the width of its way's grid lies in the list, and its word is what stands there.
use mathlib.Core.Path.{◌∙◌}
use Rattle.laws.specs.Signed.{word_is}
use Rattle.layout.proofs.Pointing.{face_in, face_read}
use Rattle.layout.proofs.words.face_at.Goals as goal

pub first-first-requires : goal.first-first-requires
first-first-requires c = c.requires.card

pub word-requires : goal.word-requires
word-requires c =
    let p = c.requires in
    rw (c.first-first.ensures, c.wide-wide.ensures) (face_in _ _ p.long p.face)

pub returns : goal.returns
returns c = word_is c.word.result c.word.type_inv (c.word.ensures ∙ rw (c.first-first.ensures, c.wide-wide.ensures) (face_read _ _ _ _ _))
