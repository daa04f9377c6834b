-- The words that stand in a sheet's bytes, as the lists that are read there.
use Prim.Native.Nat.{ℕ, ◌+◌, ◌*◌}
use mathlib.Core.Path.{◌≡◌, ap, ◌∙◌}
use mathlib.Core.List.{List}
use native.Mathlib.Omega.{arith}
use lib.ListN.{length, drop}
use Rattle.rules.specs.declared.Card.{Card}
use Rattle.rules.specs.Site.{cells, state_length, card_fits, values_fit, read_ground, read_state}
use Rattle.rules.specs.Sheet.{words_in, card_in}
use Rattle.laws.specs.Facts.{Sized}
use Rattle.laws.specs.Sheets.{ground_there, state_there, read_lengths}
use Rattle.sheet.specs.Front.{Front}
use Rattle.sheet_reader.specs.Values.{sheet_values_fit}
use Rattle.sheet_reader.proofs.Reading.{long}

module _ (l : List ℕ) (f : Front l (cells (card_in l)) (state_length (card_in l))) {c : Card} {n m : ℕ} (e : c ≡ card_in l) (p : n ≡ cells c) (q : m ≡ state_length c) where
  cells_are : n ≡ cells (card_in l)
  cells_are = p ∙ ap cells e

  words_are : m ≡ state_length (card_in l)
  words_are = q ∙ ap state_length e

  pub held : length l ≡ 19 + 4 * n + 4 * m
  held = omega (arith, long l _ _ f, cells_are, words_are)

  pub sized : Sized c (words_in n (drop 19 l)) (words_in m (drop (19 + 4 * n) l))
  sized = record { card = ap card_fits e ∙ f.card; lengths = rw (e, ground_there l cells_are, state_there l cells_are words_are) (read_lengths l) }

  pub same_values : values_fit c (read_ground c (words_in n (drop 19 l))) (read_state c (words_in m (drop (19 + 4 * n) l))) ≡ sheet_values_fit l
  unfolding sheet_values_fit
  same_values = cc (e, ground_there l cells_are, state_there l cells_are words_are)
