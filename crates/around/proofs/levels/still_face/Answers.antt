-- `still_face`: cells K and L lie on the site, so that each of the four places lies in its list, and its word is the number there.
use Prim.Native.Nat.{ℕ, ◌+◌, ◌*◌, ◌<◌}
use mathlib.Core.Path.{◌∙◌}
use native.Mathlib.Omega.{arith}
use lib.Arith.{digits_lt}
use lib.IntN.{pos}
use lib.ListN.{length}
use Rattle.laws.specs.Signed.{word_is}
use Rattle.layout.specs.Places.{HeightPlace}
use Rattle.around.specs.Still.{still_face}
use Rattle.layout.proofs.Pointing.{Cell}
use Rattle.around.proofs.Around.{behind, beyond}
use Rattle.around.proofs.Flows.{ground_read}
use Rattle.around.proofs.levels.still_face.Goals as goal

pub forth_column-i_l-requires : goal.forth_column-i_l-requires
forth_column-i_l-requires c =
    let k : Cell c.args.card c.args.i c.args.j = behind c.args.way _ _ c.requires.column c.requires.row in
    omega (arith, k.column, c.requires.card.columns_high)

pub forth_row-j_l-requires : goal.forth_row-j_l-requires
forth_row-j_l-requires c =
    let k : Cell c.args.card c.args.i c.args.j = behind c.args.way _ _ c.requires.column c.requires.row in
    omega (arith, k.row, c.requires.card.rows_high)

pub height_at-requires : goal.height_at-requires
height_at-requires c =
    let k : Cell c.args.card c.args.i c.args.j = behind c.args.way _ _ c.requires.column c.requires.row in
    let l : Cell c.args.card c.forth_column-i_l.result c.forth_row-j_l.result = beyond c.args.way _ _ c.requires.column c.requires.row c.forth_column-i_l.ensures c.forth_row-j_l.ensures in
    let tide_in : (m n : ℕ) → Cell c.args.card m n → HeightPlace c.args.card c.args.tide.now m n = (λ m n h. record { long = c.requires.tide; column = h.column; row = h.row }) in
    search (tide_in, k, l)

pub height_at-requires-2 : goal.height_at-requires-2
height_at-requires-2 c =
    let k : Cell c.args.card c.args.i c.args.j = behind c.args.way _ _ c.requires.column c.requires.row in
    let l : Cell c.args.card c.forth_column-i_l.result c.forth_row-j_l.result = beyond c.args.way _ _ c.requires.column c.requires.row c.forth_column-i_l.ensures c.forth_row-j_l.ensures in
    let tide_in : (m n : ℕ) → Cell c.args.card m n → HeightPlace c.args.card c.args.tide.now m n = (λ m n h. record { long = c.requires.tide; column = h.column; row = h.row }) in
    search (tide_in, k, l)

pub word-requires : goal.word-requires
word-requires c =
    let k : Cell c.args.card c.args.i c.args.j = behind c.args.way _ _ c.requires.column c.requires.row in
    let ground_in : (m n : ℕ) → Cell c.args.card m n → 0 + (n * c.args.card.columns + m) < length c.args.land.now = (λ m n h. omega (arith, c.requires.land, digits_lt h.row h.column)) in
    ground_in _ _ k

pub word-requires-2 : goal.word-requires-2
word-requires-2 c =
    let l : Cell c.args.card c.forth_column-i_l.result c.forth_row-j_l.result = beyond c.args.way _ _ c.requires.column c.requires.row c.forth_column-i_l.ensures c.forth_row-j_l.ensures in
    let ground_in : (m n : ℕ) → Cell c.args.card m n → 0 + (n * c.args.card.columns + m) < length c.args.land.now = (λ m n h. omega (arith, c.requires.land, digits_lt h.row h.column)) in
    ground_in _ _ l

pub returns : goal.returns
unfolding still_face
returns c =
    let a = c.args in
    rw (← c.forth_column-i_l.ensures, ← c.forth_row-j_l.ensures)
    (λ x. record {
      old_k = pos 0;
      old_l = pos 0;
      new_k = word_is c.height_at.result c.height_at.type_inv c.height_at.ensures x;
      new_l = word_is c.height_at-2.result c.height_at-2.type_inv c.height_at-2.ensures x;
      ground_k = word_is c.word.result c.word.type_inv (c.word.ensures ∙ ground_read a.card a.land.now a.i a.j) x;
      ground_l = word_is c.word-2.result c.word-2.type_inv (c.word-2.ensures ∙ ground_read a.card a.land.now c.forth_column-i_l.result c.forth_row-j_l.result) x;
      own = pos 0;
      ahead = pos 0;
      behind = pos 0;
      above_k = pos 0;
      above_l = pos 0;
      below_k = pos 0;
      below_l = pos 0;
      u = pos 0;
      u_ahead = pos 0;
      u_behind = pos 0;
      u_above = pos 0;
      u_below = pos 0;
    })
