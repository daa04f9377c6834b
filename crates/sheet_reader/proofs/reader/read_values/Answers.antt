-- `read_values`: the lists are filled with the words that stand in the sheet where its values pass.
use mathlib.Core.Path.{◌≡◌, ◌∙◌}
use native.Mathlib.Omega.{arith}
use Rattle.std.specs.Prelude.{Err}
use Rattle.std.proofs.Common.{rules}
use Rattle.rules.specs.Answers.{heard_of}
use Rattle.laws.specs.Sheets.{head_facts}
use Rattle.sheet_reader.proofs.Reading.{front_own, number_own, long, ground_is, state_is, refused, done}
use Rattle.sheet_reader.proofs.reader.read_values.Goals as goal

pub values_number-requires : goal.values_number-requires
values_number-requires c = front_own _ _ _ c.requires

pub returns-in_err-values_number : goal.returns-in_err-values_number
returns-in_err-values_number c =
    let same : heard_of c.from_residual.result ≡ heard_of (Err c.in_err-values_number.field-0.0) = search rules in
    refused _ _ _ _ same (c.in_err-values_number.ensures ∙ number_own _ _ _ c.requires)

pub get_words-requires : goal.get_words-requires
get_words-requires c = let l = long _ _ _ c.requires in omega arith

pub get_words-requires-2 : goal.get_words-requires-2
get_words-requires-2 c =
    let l = long _ _ _ c.requires in
    let n = c.get_words.auto.words in
    omega arith

pub card_in-requires : goal.card_in-requires
card_in-requires c = (head_facts _ c.requires.head).long

pub returns : goal.returns
returns c =
    let n = c.get_words.auto.words in
    done _ _ _ _ _ _ (c.in_ok-values_number.ensures ∙ number_own _ _ _ c.requires) c.card_in.ensures
    (c.get_words.ensures ∙ ground_is _ _ _ c.requires)
    (rw n at c.get_words-2.ensures ∙ state_is _ _ _ c.requires)
