use mathlib.Core.Path.{refl, sym, ◌∙◌}
use native.Mathlib.Omega.{arith}
use Rattle.raster_laws.specs.Digits.{read_none, read_more, read_stop, read_all, read_fits}
use Rattle.decimals.proofs.counts.digits_from.Goals as goal

pub loop-i-init : goal.loop-i-init
loop-i-init c = read_none c.requires

pub returns-then-not-is_digit : goal.returns-then-not-is_digit
returns-then-not-is_digit c = read_stop c.loop-i.invariant c.loop-i-test.true refl (sym c.is_digit.ensures ∙ c.if-not-is_digit.true)

pub overflow_mul-n : goal.overflow_mul-n
overflow_mul-n c = omega (arith, read_fits c.loop-i.invariant c.loop-i-test.true c.requires.short refl (sym c.is_digit.ensures ∙ c.if-not-is_digit.false))

pub overflow_add-n : goal.overflow_add-n
overflow_add-n c = omega (arith, read_fits c.loop-i.invariant c.loop-i-test.true c.requires.short refl (sym c.is_digit.ensures ∙ c.if-not-is_digit.false))

pub loop-i-preserved : goal.loop-i-preserved
loop-i-preserved c = rw c.from.ensures (read_more c.loop-i.invariant c.loop-i-test.true refl (sym c.is_digit.ensures ∙ c.if-not-is_digit.false))

pub returns : goal.returns
returns c = read_all c.loop-i.invariant c.loop-i-test.false
