-- `put_whole`: one digit, or two.
use mathlib.Core.Path.{refl, sym, ap}
use Prim.Native.Nat.{◌+◌, ◌/◌, ◌%◌}
use native.Mathlib.Omega.{arith}
use lib.ListN.{length, length-set}
use Rattle.laws.specs.Decimals.{decimal_one}
use Rattle.print.proofs.Laws.{appended_same}
use Rattle.raster_writer.proofs.Laws.{one_byte, next_byte, ends_at, two_digits}
use Rattle.raster_writer.proofs.metres.put_whole.Goals as goal

pub bounds-out-at : goal.bounds-out-at
bounds-out-at c = omega (arith, c.requires.1, ap length (decimal_one c.args.n c.if-n-lt10.true))

pub returns-then-n-lt10 : goal.returns-then-n-lt10
returns-then-n-lt10 c = appended_same (sym (decimal_one c.args.n c.if-n-lt10.true)) (one_byte c.args.out.now c.args.at (48 + c.args.n) (omega (arith, c.requires.1, ap length (decimal_one c.args.n c.if-n-lt10.true))))

pub bounds-out-at-2 : goal.bounds-out-at-2
bounds-out-at-2 c = omega (arith, c.requires.1, ap length (two_digits c.args.n c.if-n-lt10.false c.requires.0))

pub bounds-out-at-3 : goal.bounds-out-at-3
bounds-out-at-3 c = rw length-set (omega (arith, c.requires.1, ap length (two_digits c.args.n c.if-n-lt10.false c.requires.0)))

pub returns : goal.returns
returns c = appended_same (sym (two_digits c.args.n c.if-n-lt10.false c.requires.0)) (ends_at (c.args.at + 2) (omega arith) (next_byte (c.args.at + 1) (48 + c.args.n % 10) (one_byte c.args.out.now c.args.at (48 + c.args.n / 10) (omega (arith, c.requires.1, ap length (two_digits c.args.n c.if-n-lt10.false c.requires.0)))) refl (omega (arith, c.requires.1, ap length (two_digits c.args.n c.if-n-lt10.false c.requires.0)))))
