use Rattle.std.proofs.Common.{refl, arith}
use Rattle.numbers.proofs.Loops.{put_turn, put_end}
use Rattle.numbers.proofs.put_number.Goals as goal

pub loop-i-init : goal.loop-i-init
loop-i-init c = refl

pub loop-i-preserved : goal.loop-i-preserved
loop-i-preserved c = let l = c.loop-i in put_turn l.out _ c.args.at l.i l.rest c.loop-i-test.true (omega arith) l.invariant

pub returns : goal.returns
returns c = let l = c.loop-i in put_end l.out _ c.args.at l.i l.rest (omega arith) l.invariant
