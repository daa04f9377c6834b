-- The tests of a sheet's head and of its lengths, as the code makes them.
use Prim.Native.Nat.{ℕ, ◌<◌, ◌≤◌}
use mathlib.Core.Path.{◌≡◌}
use mathlib.Core.Bool.{false, ◌&&◌}
use mathlib.Core.List.{List}
use lib.ListN.{length, drop}
use lib.Dec.{eqb}
use borrow.Author.Tests.{le-leb, lt-leb}
use Rattle.rules.specs.declared.Card.{Card}
use Rattle.rules.specs.Site.{cells, state_length}
use Rattle.rules.specs.Sheet.{number_in, head_fits, sheet_size, card_in, sheet_lengths_fit}

pub head_short : (l : List ℕ) → length l < 19 → false ≡ head_fits l
unfolding head_fits
head_short l h = rw (lt-leb 19 (length l) h)

pub head_long : (l : List ℕ) (named version : ℕ) → 19 ≤ length l → named ≡ number_in 4 l → version ≡ number_in 1 (drop 4 l) → (eqb named (length l) && eqb version 1) ≡ head_fits l
unfolding head_fits
head_long l named version h p q = rw (le-leb 19 (length l) h, p, q)

-- the test of the lengths
pub lengths_test : (l : List ℕ) (n m : ℕ) (c : Card) {size cells_are words : ℕ} → c ≡ card_in l → size ≡ sheet_size c → cells_are ≡ cells c → words ≡ state_length c
    → (eqb (length l) size && eqb n cells_are && eqb m words) ≡ sheet_lengths_fit l n m
unfolding sheet_lengths_fit
lengths_test l n m c e p q r = cc (e, p, q, r)
