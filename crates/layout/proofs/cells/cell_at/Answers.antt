-- `cell_at`: a cell's four faces lie in the grids of their ways, so that each number is the one that is read there.
use mathlib.Core.Path.{◌∙◌, ap}
use Prim.Native.Nat.{ℕ}
use native.Mathlib.Numerals.{add-one}
use native.Mathlib.Omega.{arith}
use Rattle.rules.specs.Site.{read_state}
use Rattle.laws.specs.Signed.{word_is}
use Rattle.layout.specs.Ways.{wide, high, speeds}
use Rattle.layout.specs.Cells.{cell_at}
use Rattle.layout.proofs.cells.cell_at.Goals as goal

pub face_at-requires : goal.face_at-requires
unfolding wide high
face_at-requires c = let p = c.requires in record { card = p.card; long = p.faces; face = record { column = omega (arith, p.column); row = p.row } }

pub face_at-requires-2 : goal.face_at-requires-2
unfolding wide high
face_at-requires-2 c = let p = c.requires in record { card = p.card; long = p.faces; face = record { column = omega (arith, p.column); row = p.row } }

pub face_at-requires-3 : goal.face_at-requires-3
unfolding wide high
face_at-requires-3 c = let p = c.requires in record { card = p.card; long = p.faces; face = record { column = p.column; row = omega (arith, p.row) } }

pub face_at-requires-4 : goal.face_at-requires-4
unfolding wide high
face_at-requires-4 c = let p = c.requires in record { card = p.card; long = p.faces; face = record { column = p.column; row = omega (arith, p.row) } }

pub returns : goal.returns
unfolding cell_at speeds
returns c =
    let a = c.args in
    let height = c.height_at in
    let west = c.face_at in
    let east = c.face_at-2 in
    let south = c.face_at-3 in
    let north = c.face_at-4 in
    λ x. record {
      height = word_is height.result height.type_inv height.ensures x;
      west = word_is west.result west.type_inv west.ensures x;
      east = (word_is east.result east.type_inv east.ensures ∙ ap (λ (n : ℕ). (read_state a.card a.faces.now).east n a.j) (add-one a.i)) x;
      south = word_is south.result south.type_inv south.ensures x;
      north = (word_is north.result north.type_inv north.ensures ∙ ap (λ (n : ℕ). (read_state a.card a.faces.now).north a.i n) (add-one a.j)) x;
    }
