-- `pump`: each need of a turn, and what a turn leaves, from the pump that is read and the height that it finds (AtCell.antt).
use Rattle.std.proofs.Common.{rules, arith}
use Rattle.pumps.proofs.SoFar.{none_yet, undoable, all_done}
use Rattle.pumps.proofs.AtCell.{in_state, cell_fits, turning, more_added, more_taken, past, goes_on}
use Rattle.pumps.proofs.pump.Goals as goal

pub loop-k-init : goal.loop-k-init
loop-k-init c = none_yet

pub overflow_cast-cell : goal.overflow_cast-cell
overflow_cast-cell c = cell_fits c.requires c.loop-k.invariant c.loop-k-test.true c.pump_at-one.ensures (search rules)

pub slice_copy_out-height : goal.slice_copy_out-height
slice_copy_out-height c = in_state c.requires c.loop-k.invariant c.loop-k-test.true c.pump_at-one.ensures (search rules)

pub act-turn-requires : goal.act-turn-requires
act-turn-requires c = turning c.requires c.loop-k.invariant c.loop-k-test.true c.pump_at-one.ensures (search rules) (search rules)

pub undo-requires : goal.undo-requires
undo-requires c = undoable c.requires c.loop-k.invariant (omega arith)

pub returns-then-after-gt50000000 : goal.returns-then-after-gt50000000
returns-then-after-gt50000000 c =
    past c.requires c.loop-k.invariant c.loop-k-test.true c.pump_at-one.ensures (search rules) (search rules) c.act-turn.ensures (search rules) c.if-after-gt50000000.true c.undo.ensures

pub bounds-state-cell : goal.bounds-state-cell
bounds-state-cell c = in_state c.requires c.loop-k.invariant c.loop-k-test.true c.pump_at-one.ensures (search rules)

pub overflow_add-acted : goal.overflow_add-acted
overflow_add-acted c =
    omega (arith, c.from.ensures, more_added c.requires c.loop-k.invariant c.loop-k-test.true c.pump_at-one.ensures (search rules) (search rules) c.act-turn.ensures)

pub overflow_add-acted-in-loop-k : goal.overflow_add-acted-in-loop-k
overflow_add-acted-in-loop-k c =
    omega (arith, c.from-in-loop-k.ensures, more_taken c.requires c.loop-k.invariant c.loop-k-test.true c.pump_at-one.ensures (search rules) (search rules) c.act-turn.ensures)

pub loop-k-preserved : goal.loop-k-preserved
loop-k-preserved c =
    goes_on c.requires c.loop-k.invariant c.loop-k-test.true c.pump_at-one.ensures (search rules) (search rules) c.act-turn.ensures (search rules) c.if-after-gt50000000.false (search rules) (search rules)

pub returns : goal.returns
returns c = all_done c.loop-k.invariant c.loop-k-test.false
