-- `own_share`: two heights and four flows out, each within its bound, so that no sum or difference wraps.
use mir.Syntax.{w32}
use Rattle.rules.specs.Step.{own_share}
use Rattle.laws.specs.Exact.{Node, fits, value, int, add, sub}
use Rattle.face.proofs.Bounds.{height_within}
use Rattle.momentum.proofs.Bounds.{ahead_within, behind_within, above_within, below_within}
use Rattle.momentum.proofs.Flows.{outward}
use Rattle.momentum.proofs.own_share.Goals as goal

pub out_ahead-requires : goal.out_ahead-requires
out_ahead-requires c = c.requires

pub out_behind-requires : goal.out_behind-requires
out_behind-requires c = c.requires

pub positive-requires-2 : goal.positive-requires-2
positive-requires-2 c = tt

pub overflow_add-along : goal.overflow_add-along
overflow_add-along c =
    let along : Node w32 = let r = c.requires in
    add
    (outward (ahead_within r) c.out_ahead.ensures c.positive.ensures)
    (outward (behind_within r) c.out_behind.ensures c.positive-2.ensures)
    tt in
    fits along

pub out_above-requires : goal.out_above-requires
out_above-requires c = c.requires

pub positive-requires-3 : goal.positive-requires-3
positive-requires-3 c = tt

pub out_below-requires : goal.out_below-requires
out_below-requires c = c.requires

pub positive-requires-4 : goal.positive-requires-4
positive-requires-4 c = tt

pub overflow_add-across : goal.overflow_add-across
overflow_add-across c =
    let across : Node w32 = let r = c.requires in
    add
    (outward (above_within r) c.out_above.ensures c.positive-3.ensures)
    (outward (below_within r) c.out_below.ensures c.positive-4.ensures)
    tt in
    fits across

pub overflow_add-result : goal.overflow_add-result
overflow_add-result c =
    let old : Node w32 = let r = c.requires in add (int (height_within r.old_k) tt) (int (height_within r.old_l) tt) tt in
    fits old

pub overflow_add-result-2 : goal.overflow_add-result-2
overflow_add-result-2 c =
    let along : Node w32 = let r = c.requires in
    add
    (outward (ahead_within r) c.out_ahead.ensures c.positive.ensures)
    (outward (behind_within r) c.out_behind.ensures c.positive-2.ensures)
    tt in
    let across : Node w32 = let r = c.requires in
    add
    (outward (above_within r) c.out_above.ensures c.positive-3.ensures)
    (outward (below_within r) c.out_below.ensures c.positive-4.ensures)
    tt in
    let out : Node w32 = add along across tt in
    fits out

pub overflow_sub-result : goal.overflow_sub-result
overflow_sub-result c =
    let along : Node w32 = let r = c.requires in
    add
    (outward (ahead_within r) c.out_ahead.ensures c.positive.ensures)
    (outward (behind_within r) c.out_behind.ensures c.positive-2.ensures)
    tt in
    let across : Node w32 = let r = c.requires in
    add
    (outward (above_within r) c.out_above.ensures c.positive-3.ensures)
    (outward (below_within r) c.out_below.ensures c.positive-4.ensures)
    tt in
    let old : Node w32 = let r = c.requires in add (int (height_within r.old_k) tt) (int (height_within r.old_l) tt) tt in
    let out : Node w32 = add along across tt in
    let own : Node w32 = sub old out tt in
    fits own

pub returns : goal.returns
unfolding own_share
returns c =
    let along : Node w32 = let r = c.requires in
    add
    (outward (ahead_within r) c.out_ahead.ensures c.positive.ensures)
    (outward (behind_within r) c.out_behind.ensures c.positive-2.ensures)
    tt in
    let across : Node w32 = let r = c.requires in
    add
    (outward (above_within r) c.out_above.ensures c.positive-3.ensures)
    (outward (below_within r) c.out_below.ensures c.positive-4.ensures)
    tt in
    let old : Node w32 = let r = c.requires in add (int (height_within r.old_k) tt) (int (height_within r.old_l) tt) tt in
    let out : Node w32 = add along across tt in
    let own : Node w32 = sub old out tt in
    value own
