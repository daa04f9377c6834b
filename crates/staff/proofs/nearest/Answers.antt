-- `nearest`: bits up to those of 50,000,000 are a height, by the significand and what its division leaves, and bits above are refused, but for those of -0.0.
-- Which float the bits are of, a product or a sum with it, which bits are let through as 0, and where the limit lies, is asked for only where an answer is: so a
-- slip there is refused for what it answers.
use mathlib.Core.Path.{refl}
use native.Mathlib.Omega.{arith}
use borrow.Author.Rules.{rules}
use lib.Ieee.{of_bits}
use mir.Facts.{Fits-of_lt}
use Rattle.staff.proofs.AtLeast0.{number, plus_number}
use Rattle.staff.proofs.Parts.{unit_pos, rest_fits, whole_fits}
use Rattle.staff.proofs.Answers.{itself, with_nothing, zero_is, less_than_half_is, more_is, less_is, refused_is}
use Rattle.staff.proofs.nearest.Goals as goal

ruleset numbers = (number, plus_number, rules)

ruleset standing = (itself, with_nothing, rules)

pub float_to_bits-bits : goal.float_to_bits-bits
unfolding of_bits
float_to_bits-bits c = search numbers

pub returns-then-bits : goal.returns-then-bits
returns-then-bits c = zero_is _ _ _ c.if-bits.true refl (search standing)

pub returns-then-exponent-lt1022 : goal.returns-then-exponent-lt1022
returns-then-exponent-lt1022 c = less_than_half_is _ _ c.if-exponent-lt1022.true (search standing)

pub nonzero_div-whole : goal.nonzero_div-whole
nonzero_div-whole c = unit_pos _ c.if-exponent-lt1022.false

pub nonzero_rem-rest : goal.nonzero_rem-rest
nonzero_rem-rest c = unit_pos _ c.if-exponent-lt1022.false

pub overflow_mul-rest : goal.overflow_mul-rest
overflow_mul-rest c = Fits-of_lt (omega (arith, rest_fits _ c.if-exponent-lt1022.false))

pub overflow_add-up : goal.overflow_add-up
overflow_add-up c = Fits-of_lt (omega (arith, whole_fits _ c.if-exponent-lt1022.false (omega (arith, c.if-bits-le4721979696256909312.true))))

pub overflow_cast-up : goal.overflow_cast-up
overflow_cast-up c = omega (arith, whole_fits _ c.if-exponent-lt1022.false (omega (arith, c.if-bits-le4721979696256909312.true)))

pub returns-then-unit-rest : goal.returns-then-unit-rest
returns-then-unit-rest c = more_is _ _ (search rules) c.if-exponent-lt1022.false (search rules) (search standing)

pub overflow_cast-height : goal.overflow_cast-height
overflow_cast-height c = omega (arith, whole_fits _ c.if-exponent-lt1022.false (omega (arith, c.if-bits-le4721979696256909312.true)))

pub returns-then-bits-le4721979696256909312 : goal.returns-then-bits-le4721979696256909312
returns-then-bits-le4721979696256909312 c = less_is _ _ (search rules) c.if-exponent-lt1022.false (search rules) (search standing)

pub returns : goal.returns
returns c = refused_is _ _ c.if-bits-le4721979696256909312.false (search rules) (search standing)
