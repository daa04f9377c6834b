-- `put_cm`: the library writes n in front of the unit that stands there.
use Rattle.std.proofs.Common.{arith}
use Rattle.rules.specs.Text.{cm}
use Rattle.put.proofs.Laws.{put_same, ten_digits, written}
use Rattle.put.proofs.put_cm.Goals as goal

pub write_digits-start-requires : goal.write_digits-start-requires
write_digits-start-requires c = (ten_digits _ (omega arith), omega arith)

pub returns : goal.returns
returns c =
    let small = c.ranges.n.fits in
    let w = c.write_digits-start in
    let text = written _ c.args.n cm w.result 13 w.new.buf w.ensures.written (omega arith) (omega arith) (omega arith) in
    put_same text c.put_front.ensures
