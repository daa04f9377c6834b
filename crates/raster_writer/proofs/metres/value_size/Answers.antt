-- `value_size`: a size, and a minus where the value is below 0.
use Prim.Native.Nat.{ℕ}
use mathlib.Core.Path.{◌≡◌, ap, ◌∙◌}
use native.Mathlib.Omega.{arith}
use lib.IntN.{nat_abs}
use lib.ListN.{length}
use mir.Facts.{to_z-of_z}
use Rattle.rules.specs.Raster.{metres}
use Rattle.raster_writer.proofs.Laws.{minus_below, minus_not}
use Rattle.raster_writer.proofs.Lengths.{length-signed, metres_most}
use Rattle.raster_writer.proofs.metres.value_size.Goals as goal

pub overflow_add-result : goal.overflow_add-result
overflow_add-result c = let told = to_z-of_z c.ranges.z in let m : c.metres_size-size.result ≡ length (metres (nat_abs c.args.z)) = c.metres_size-size.ensures ∙ ap (λ (k : ℕ). length (metres k)) (c.size.ensures ∙ ap nat_abs told) in omega (arith, m, metres_most (nat_abs c.args.z) (omega (arith, c.requires)))

pub returns-then-z-lt0 : goal.returns-then-z-lt0
returns-then-z-lt0 c = let told = to_z-of_z c.ranges.z in let m : c.metres_size-size.result ≡ length (metres (nat_abs c.args.z)) = c.metres_size-size.ensures ∙ ap (λ (k : ℕ). length (metres k)) (c.size.ensures ∙ ap nat_abs told) in omega (arith, m, length-signed c.args.z, ap length (minus_below c.args.z (rw told at c.if-z-lt0.true)))

pub returns : goal.returns
returns c = let told = to_z-of_z c.ranges.z in let m : c.metres_size-size.result ≡ length (metres (nat_abs c.args.z)) = c.metres_size-size.ensures ∙ ap (λ (k : ℕ). length (metres k)) (c.size.ensures ∙ ap nat_abs told) in omega (arith, m, length-signed c.args.z, ap length (minus_not c.args.z (rw told at c.if-z-lt0.false)))
