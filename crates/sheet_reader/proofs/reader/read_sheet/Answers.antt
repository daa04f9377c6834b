-- `read_sheet`: a front that is refused leaves the lists as lent; else the values decide.
use mathlib.Core.Path.{◌≡◌, sym}
use Rattle.std.specs.Prelude.{Err}
use Rattle.std.proofs.Common.{rules}
use Rattle.rules.specs.Answers.{heard_of}
use Rattle.laws.specs.Refusing.{number-ne0}
use Rattle.sheet.specs.Front.{front_told, front_facts}
use Rattle.sheet_reader.proofs.Reading.{refused}
use Rattle.sheet_reader.proofs.reader.read_sheet.Goals as goal

pub returns-in_err-front_number : goal.returns-in_err-front_number
returns-in_err-front_number c =
    let same : heard_of c.from_residual.result ≡ heard_of (Err c.in_err-front_number.field-0.0) = search rules in
    refused _ _ _ _ same (front_told _ _ _ (number-ne0 _) c.in_err-front_number.ensures)

pub read_values-requires : goal.read_values-requires
read_values-requires c = front_facts _ _ _ (sym c.in_ok-front_number.ensures)
