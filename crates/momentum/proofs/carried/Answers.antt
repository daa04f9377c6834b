-- `carried`: bounds on the own share, on each flow and on each velocity keep every product and sum within 64 bits.
use mir.Syntax.{w64}
use Rattle.rules.specs.Step.{carried}
use Rattle.laws.specs.Exact.{Node, fits, value, int, result, add, mul, cast}
use Rattle.momentum.proofs.Bounds.{share_within, ahead_within, behind_within, above_within, below_within}
use Rattle.momentum.proofs.Flows.{handed, inward}
use Rattle.momentum.proofs.carried.Goals as goal

-- what it returns; then that each operation fits
pub returns : goal.returns
unfolding carried
returns c =
    let own : Node w64 = cast (result c.own_share.ensures (share_within c.requires) tt) tt in
    let u : Node w64 = cast (int c.requires.u tt) tt in
    let kept : Node w64 = mul own u tt in
    let along : Node w64 = let r = c.requires in
    add
    (inward (ahead_within r) c.out_ahead.ensures r.u_ahead c.brought.ensures)
    (inward (behind_within r) c.out_behind.ensures r.u_behind c.brought-2.ensures)
    tt in
    let across : Node w64 = let r = c.requires in
    add
    (inward (above_within r) c.out_above.ensures r.u_above c.brought-3.ensures)
    (inward (below_within r) c.out_below.ensures r.u_below c.brought-4.ensures)
    tt in
    let entered : Node w64 = add along across tt in
    let all : Node w64 = add kept entered tt in
    value all

pub own_share-requires : goal.own_share-requires
own_share-requires c = c.requires

pub overflow_cast-kept : goal.overflow_cast-kept
overflow_cast-kept c =
    let own : Node w64 = cast (result c.own_share.ensures (share_within c.requires) tt) tt in
    fits own

pub overflow_cast-kept-2 : goal.overflow_cast-kept-2
overflow_cast-kept-2 c =
    let u : Node w64 = cast (int c.requires.u tt) tt in
    fits u

pub overflow_mul-kept : goal.overflow_mul-kept
overflow_mul-kept c =
    let own : Node w64 = cast (result c.own_share.ensures (share_within c.requires) tt) tt in
    let u : Node w64 = cast (int c.requires.u tt) tt in
    let kept : Node w64 = mul own u tt in
    fits kept

pub out_ahead-requires : goal.out_ahead-requires
out_ahead-requires c = c.requires

pub brought-requires : goal.brought-requires
brought-requires c = let r = c.requires in handed (ahead_within r) c.out_ahead.ensures r.u_ahead

pub out_behind-requires : goal.out_behind-requires
out_behind-requires c = c.requires

pub brought-requires-2 : goal.brought-requires-2
brought-requires-2 c = let r = c.requires in handed (behind_within r) c.out_behind.ensures r.u_behind

pub overflow_add-along : goal.overflow_add-along
overflow_add-along c =
    let along : Node w64 = let r = c.requires in
    add
    (inward (ahead_within r) c.out_ahead.ensures r.u_ahead c.brought.ensures)
    (inward (behind_within r) c.out_behind.ensures r.u_behind c.brought-2.ensures)
    tt in
    fits along

pub out_above-requires : goal.out_above-requires
out_above-requires c = c.requires

pub brought-requires-3 : goal.brought-requires-3
brought-requires-3 c = let r = c.requires in handed (above_within r) c.out_above.ensures r.u_above

pub out_below-requires : goal.out_below-requires
out_below-requires c = c.requires

pub brought-requires-4 : goal.brought-requires-4
brought-requires-4 c = let r = c.requires in handed (below_within r) c.out_below.ensures r.u_below

pub overflow_add-across : goal.overflow_add-across
overflow_add-across c =
    let across : Node w64 = let r = c.requires in
    add
    (inward (above_within r) c.out_above.ensures r.u_above c.brought-3.ensures)
    (inward (below_within r) c.out_below.ensures r.u_below c.brought-4.ensures)
    tt in
    fits across

pub overflow_add-result : goal.overflow_add-result
overflow_add-result c =
    let along : Node w64 = let r = c.requires in
    add
    (inward (ahead_within r) c.out_ahead.ensures r.u_ahead c.brought.ensures)
    (inward (behind_within r) c.out_behind.ensures r.u_behind c.brought-2.ensures)
    tt in
    let across : Node w64 = let r = c.requires in
    add
    (inward (above_within r) c.out_above.ensures r.u_above c.brought-3.ensures)
    (inward (below_within r) c.out_below.ensures r.u_below c.brought-4.ensures)
    tt in
    let entered : Node w64 = add along across tt in
    fits entered

pub overflow_add-result-2 : goal.overflow_add-result-2
overflow_add-result-2 c =
    let own : Node w64 = cast (result c.own_share.ensures (share_within c.requires) tt) tt in
    let u : Node w64 = cast (int c.requires.u tt) tt in
    let kept : Node w64 = mul own u tt in
    let along : Node w64 = let r = c.requires in
    add
    (inward (ahead_within r) c.out_ahead.ensures r.u_ahead c.brought.ensures)
    (inward (behind_within r) c.out_behind.ensures r.u_behind c.brought-2.ensures)
    tt in
    let across : Node w64 = let r = c.requires in
    add
    (inward (above_within r) c.out_above.ensures r.u_above c.brought-3.ensures)
    (inward (below_within r) c.out_below.ensures r.u_below c.brought-4.ensures)
    tt in
    let entered : Node w64 = add along across tt in
    let all : Node w64 = add kept entered tt in
    fits all
