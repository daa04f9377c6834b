-- `both_ways`: the part is cut behind the eastward faces, and its two grids stand one behind the other.
use mathlib.Core.Path.{◌≡◌, ◌∙◌, sym}
use Prim.Native.Nat.{ℕ, suc, ◌+◌, ◌*◌}
use native.Mathlib.Omega.{arith}
use borrow.Author.Rules.{rules}
use lib.Seq.{length-take-le}
use Rattle.laws.specs.Grids.{length-grid}
use Rattle.laws.specs.Parts.{two_parts, length_part}
use Rattle.transfers.specs.Tide.{crossings}
use Rattle.layout.specs.Ways.{wide, high, transfers}
use Rattle.transfers.proofs.both_ways.Goals as goal

pub slice_bounds-over_faces-end-2 : goal.slice_bounds-over_faces-end-2
slice_bounds-over_faces-end-2 c = sym (length-take-le _ _ (omega arith))

pub over_faces-requires : goal.over_faces-requires
unfolding wide high
over_faces-requires c =
    let easts : ℕ = c.args.card.rows * (c.args.card.columns + 1) in
    record { limited = c.requires.limited; marked = c.requires.marked; long = length_part easts c.args.part.now (omega arith) (omega arith) }

pub over_faces-requires-2 : goal.over_faces-requires-2
unfolding wide high
over_faces-requires-2 c = search rules

pub returns : goal.returns
unfolding crossings wide high transfers
returns c =
    let easts : ℕ = c.args.card.rows * (c.args.card.columns + 1) in
    let same : c.args.card.rows * suc c.args.card.columns ≡ easts = omega arith in
    two_parts easts c.args.part.now c.over_faces.ensures c.over_faces-2.ensures
    (length-grid _ _ _ ∙ same)
