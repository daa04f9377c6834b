-- `transfers`: the part behind the heights is as long as all faces, and only that part is filled.
use mathlib.Core.Path.{◌∙◌}
use Prim.Native.Nat.{ℕ, ◌*◌}
use native.Mathlib.Omega.{arith}
use Rattle.laws.specs.Places.{room}
use Rattle.laws.specs.Parts.{back_length, back_drop}
use Rattle.transfers.proofs.transfers.Goals as goal

pub overflow_mul-cells : goal.overflow_mul-cells
overflow_mul-cells c = omega (arith, room _ c.requires.long)

pub offset_bounds-tide-cells : goal.offset_bounds-tide-cells
offset_bounds-tide-cells c = omega (arith, room _ c.requires.long)

pub slice_bounds-both_ways-count : goal.slice_bounds-both_ways-count
slice_bounds-both_ways-count c = omega (arith, room _ c.requires.long)

pub slice_bounds-both_ways-start : goal.slice_bounds-both_ways-start
slice_bounds-both_ways-start c = omega (arith, room _ c.requires.long)

pub both_ways-requires : goal.both_ways-requires
both_ways-requires c =
    let cells : ℕ = c.args.card.rows * c.args.card.columns in
    record {
      limited = c.requires.limited;
      marked = c.requires.marked;
      long = back_length cells c.args.tide.now ∙ omega (arith, room c.args.card c.requires.long);
    }

pub returns : goal.returns
returns c =
    let cells : ℕ = c.args.card.rows * c.args.card.columns in
    back_drop cells c.args.tide.now (room c.args.card c.requires.long).heights ∙ c.both_ways.ensures
