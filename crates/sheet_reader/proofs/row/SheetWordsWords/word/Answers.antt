-- `word`: the words that stand there are those that are read.
use mathlib.Core.Path.{◌≡◌, sym, ap₂, ◌∙◌}
use mathlib.Core.List.{List}
use mir.Syntax.{w32}
use mir.Facts.{to_z-of_z}
use Prim.Native.Nat.{ℕ, ◌+◌, ◌<◌}
use native.Mathlib.Omega.{arith}
use lib.IntN.{pos}
use lib.ListN.{drop}
use Rattle.std.proofs.Common.{get_or}
use Rattle.rules.specs.Sheet.{words_in}
use Rattle.laws.specs.Words.{word_at, length_in, get_d_in}
use Rattle.sheet_reader.proofs.row.SheetWordsWords.word.Goals as goal

-- the word at place k of a row of n words, which begins at index `at`
there : (l : List ℕ) (n at k : ℕ) (from i : ℕ) → from ≡ at → i ≡ k → k < n → word_at l from i ≡ get_or (words_in n (drop at l)) k (pos 0)
there l n at k from i same_row same_place within = ap₂ (word_at l) same_row same_place ∙ sym (get_d_in n l at k within)

pub overflow_add-from : goal.overflow_add-from
overflow_add-from c = let row = c.args.self.now in record { fits = omega (arith, c.requires, length_in row.count (drop row.at row.sheet.now), row.held, c.type_inv.self) }

pub word_at-requires : goal.word_at-requires
word_at-requires c = let row = c.args.self.now in omega (arith, c.requires, length_in row.count (drop row.at row.sheet.now), row.held)

pub returns : goal.returns
returns c =
    let row = c.args.self.now in
    let k = c.args.from + c.args.k in
    let within : k < row.count = omega (arith, c.requires, length_in row.count (drop row.at row.sheet.now)) in
    to_z-of_z {w = w32} (record { sfits = c.word_at.type_inv })
    ∙ c.word_at.ensures
    ∙ there row.sheet.now row.count row.at k _ _ (omega arith) (omega arith) within
