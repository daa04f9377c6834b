-- `face_still`: the test is made of the velocity that stands there.
use mathlib.Core.Path.{◌∙◌, ap}
use Rattle.rules.specs.Site.{is_zero}
use Rattle.laws.specs.Signed.{word_is}
use Rattle.still.proofs.face_still.Goals as goal

pub returns : goal.returns
returns c =
    let u = c.face_at in
    c.is_zero.ensures ∙ ap is_zero (word_is u.result u.type_inv u.ensures)
