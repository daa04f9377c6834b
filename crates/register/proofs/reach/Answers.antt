-- `reach`: the product stays far below 2 ^ 63.
use native.Mathlib.Omega.{arith}
use mathlib.Core.Path.{◌≡◌, ap, ap₂, ◌∙◌}
use mir.Val.{to_z}
use mir.Syntax.{w64}
use mir.Facts.{to_z_pos}
use Prim.Native.Nat.{◌*◌, ◌<◌, ◌^◌}
use Rattle.laws.specs.Along.{reach_high}
use Rattle.register.proofs.reach.Goals as goal

pub overflow_mul-far : goal.overflow_mul-far
overflow_mul-far c =
    let product : c.from.result * c.from-2.result ≡ c.args.count * c.args.side = ap₂ ◌*◌ c.from.ensures c.from-2.ensures in
    omega (arith, product, reach_high c.requires.0 c.requires.1)

pub overflow_cast-result : goal.overflow_cast-result
overflow_cast-result c =
    let product : c.from.result * c.from-2.result ≡ c.args.count * c.args.side = ap₂ ◌*◌ c.from.ensures c.from-2.ensures in
    omega (arith, product, reach_high c.requires.0 c.requires.1)

pub returns : goal.returns
returns c =
    let product : c.from.result * c.from-2.result ≡ c.args.count * c.args.side = ap₂ ◌*◌ c.from.ensures c.from-2.ensures in
    let small : c.args.count * c.args.side < 2 ^ 63 = omega (arith, reach_high c.requires.0 c.requires.1) in
    ap (to_z w64) product ∙ to_z_pos w64 small
