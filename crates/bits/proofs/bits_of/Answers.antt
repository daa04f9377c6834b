-- `bits_of`: the definition's bits are the machine's.
use Rattle.std.proofs.Common.{sym, ap, ◌∙◌, ◌≡◌, of_z, arith}
use Rattle.rules.specs.Sheet.{bits_of}
use Rattle.std.specs.Int.{w32}
use mir.ValLaws.{to_z-of_z}
use Rattle.laws.specs.Words.{bits_is}
use Rattle.bits.proofs.bits_of.Goals as goal

pub returns : goal.returns
returns c =
    let is : c.cast_unsigned.result ≡ bits_of c.args.z = c.cast_unsigned.ensures ∙ ap (of_z w32) (to_z-of_z w32 c.args.z c.ranges.z) ∙ sym (bits_is c.args.z c.ranges.z) in
    omega (arith, is)
