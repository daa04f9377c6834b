-- `write_sheet`: header, land and state, each laid behind the one before.
use mathlib.Core.Path.{◌≡◌, sym, ◌∙◌}
use native.Mathlib.Omega.{arith}
use Rattle.std.specs.Prelude.{Err}
use Rattle.std.proofs.Common.{rules}
use Rattle.rules.specs.Answers.{wrote_of}
use Rattle.sheet_writer.proofs.Writing.{clean, write_refused, write_done, sheet_laid}
use Rattle.sheet_writer.proofs.write_sheet.Goals as goal

pub returns-in_err-write_number : goal.returns-in_err-write_number
returns-in_err-write_number c =
    let same : wrote_of c.from_residual.result ≡ wrote_of (Err c.in_err-write_number.field-0.0) = search rules in
    write_refused _ _ _ _ _ same c.in_err-write_number.ensures

pub put_header-requires : goal.put_header-requires
put_header-requires c =
    let k = clean _ _ _ _ (sym c.in_ok-write_number.ensures) in
    record { card = k.card; room = omega arith }

pub put_words-requires : goal.put_words-requires
put_words-requires c =
    let k = clean _ _ _ _ (sym c.in_ok-write_number.ensures) in
    let l = c.put_header.auto.bytes in
    omega arith

pub put_words-requires-2 : goal.put_words-requires-2
put_words-requires-2 c =
    let k = clean _ _ _ _ (sym c.in_ok-write_number.ensures) in
    let l = c.put_words.auto.out ∙ c.put_header.auto.bytes in
    omega arith

pub sheet_size-requires : goal.sheet_size-requires
sheet_size-requires c = (clean _ _ _ _ (sym c.in_ok-write_number.ensures)).card

pub returns : goal.returns
returns c =
    let k = clean _ _ _ _ (sym c.in_ok-write_number.ensures) in
    let laid = sheet_laid _ _ _ _ _ _ _ k c.put_header.ensures c.put_words.ensures c.put_words-2.ensures in
    write_done _ _ _ _ _ _ c.sheet_size.ensures.0 laid c.in_ok-write_number.ensures
