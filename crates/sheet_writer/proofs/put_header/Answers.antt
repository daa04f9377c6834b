-- `put_header`: eight fields, each laid behind the one before.
use mathlib.Core.Path.{◌∙◌}
use Rattle.sheet_writer.proofs.Writing.{header_laid}
use native.Mathlib.Omega.{arith}
use Rattle.sheet_writer.proofs.put_header.Goals as goal

pub put_number-requires-8 : goal.put_number-requires-8
put_number-requires-8 c =
    let r = c.requires.room in
    let k = c.put_number-7.auto.out ∙ c.put_number-6.auto.out ∙ c.put_number-5.auto.out ∙ c.put_number-4.auto.out ∙ c.put_number-3.auto.out ∙ c.put_number-2.auto.out ∙ c.put_number.auto.out in
    omega arith

pub returns : goal.returns
returns c = header_laid c.args.card c.sheet_size-size.result c.args.bytes.now _ _ _ _ _ _ _ _ c.requires.room c.sheet_size-size.ensures.0
    c.put_number.ensures c.put_number-2.ensures c.put_number-3.ensures c.put_number-4.ensures
    c.put_number-5.ensures c.put_number-6.ensures c.put_number-7.ensures c.put_number-8.ensures
