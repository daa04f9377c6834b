-- `put_value`: the sign, and then the size.
use Prim.Native.Nat.{ℕ}
use mathlib.Core.Path.{◌≡◌, ap, ◌∙◌}
use mathlib.Core.List.{◌++◌}
use native.Mathlib.Omega.{arith}
use lib.IntN.{nat_abs}
use lib.ListN.{length}
use mir.Facts.{to_z-of_z}
use Rattle.rules.specs.Raster.{metres}
use Rattle.print.proofs.Laws.{appended_more, appended_same, appended_length}
use Rattle.raster_writer.specs.Lines.{minus_text}
use Rattle.raster_writer.proofs.Laws.{signed_apart}
use Rattle.raster_writer.proofs.Lengths.{length-signed}
use Rattle.raster_writer.proofs.metres.put_value.Goals as goal

pub put_sign-start-requires : goal.put_sign-start-requires
put_sign-start-requires c = rw (to_z-of_z c.ranges.z) (omega (arith, c.requires.1, length-signed c.args.z))

pub put_metres-requires : goal.put_metres-requires
put_metres-requires c = let told = to_z-of_z c.ranges.z in let p = appended_same (ap minus_text told) c.put_sign-start.ensures in let n : c.size.result ≡ nat_abs c.args.z = c.size.ensures ∙ ap nat_abs told in let long = c.requires.1 in let all = length-signed c.args.z in let size = ap (λ (k : ℕ). length (metres k)) n in (omega (arith, n, c.requires.0), omega (arith, p.stop, long, all, size, appended_length p (omega (arith, p.stop, long, all))))

pub returns : goal.returns
returns c = let told = to_z-of_z c.ranges.z in let p = appended_same (ap minus_text told) c.put_sign-start.ensures in let n : c.size.result ≡ nat_abs c.args.z = c.size.ensures ∙ ap nat_abs told in let long = c.requires.1 in let all = length-signed c.args.z in let size = ap (λ (k : ℕ). length (metres k)) n in appended_same (ap (λ (k : ℕ). minus_text c.args.z ++ metres k) n ∙ signed_apart c.args.z) (appended_more p c.put_metres.ensures (omega (arith, p.stop, long, all)))
