-- `row_start`: a row below the last ends within the list.
use mathlib.Core.Path.{refl}
use Prim.Native.Nat.{suc, ◌*◌, ◌≤◌}
use native.Mathlib.Omega.{arith}
use native.Mathlib.Nat.{mul-le-mul, le_refl, suc-mul}
use Rattle.raster_reader.proofs.fills.row_start.Goals as goal

pub overflow_mul-result : goal.overflow_mul-result
overflow_mul-result c = let high : c.args.row ≤ 128 = omega (arith, c.requires.0, c.requires.1) in omega (arith, mul-le-mul high c.requires.2)

pub returns : goal.returns
returns c = let next : suc c.args.row * c.args.wide ≤ c.args.high * c.args.wide = mul-le-mul c.requires.0 (le_refl c.args.wide) in (refl, omega (arith, next, suc-mul c.args.row c.args.wide))
