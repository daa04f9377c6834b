-- `crossing`: what crosses is known to be at most 50,000,000 in size, so that the cast to 32 bits loses nothing.
use mathlib.Core.Path.{◌≡◌, ◌∙◌}
use mir.Facts.{to_z-of_z}
use Rattle.rules.specs.Step.{transfer}
use Rattle.laws.specs.Signed.{narrow_fits, narrow_is}
use Rattle.transfers.proofs.crossing.Goals as goal

pub overflow_cast-result : goal.overflow_cast-result
overflow_cast-result c =
    let came : let a = c.args in c.transfer.result ≡ transfer a.dt a.d a.hk a.hl a.u = c.transfer.ensures ∙ rw (to_z-of_z c.ranges.hk, to_z-of_z c.ranges.hl, to_z-of_z c.ranges.u) in
    narrow_fits c.transfer.result c.transfer.type_inv came c.requires.size tt

pub returns : goal.returns
returns c =
    let came : let a = c.args in c.transfer.result ≡ transfer a.dt a.d a.hk a.hl a.u = c.transfer.ensures ∙ rw (to_z-of_z c.ranges.hk, to_z-of_z c.ranges.hl, to_z-of_z c.ranges.u) in
    narrow_is c.transfer.result c.transfer.type_inv came c.requires.size tt
