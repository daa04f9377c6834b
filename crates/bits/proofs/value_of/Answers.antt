-- `value_of`: the definition's value is the machine's.
use Rattle.std.proofs.Common.{sym, ap, ◌∙◌, to_z, arith}
use Rattle.std.specs.Int.{w32}
use mir.ValLaws.{to_z-of_z}
use Rattle.laws.specs.Words.{value_is}
use Rattle.bits.proofs.value_of.Goals as goal

pub returns : goal.returns
returns c = to_z-of_z w32 c.cast_signed.result (record { sfits = c.cast_signed.type_inv }) ∙ c.cast_signed.ensures ∙ ap (to_z w32) (omega arith) ∙ sym (value_is c.args.b c.ranges.b.fits)
