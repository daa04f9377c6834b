-- `put_decimal`: the library writes n, and nothing stands behind it.
use Rattle.std.proofs.Common.{[], ◌∙◌, arith, append-nil}
use Rattle.rules.specs.Text.{decimal}
use Rattle.put.proofs.Laws.{put_same, ten_digits, written}
use Rattle.put.proofs.put_decimal.Goals as goal

pub write_digits-start-requires : goal.write_digits-start-requires
write_digits-start-requires c = (ten_digits _ (omega arith), omega arith)

pub returns : goal.returns
returns c =
    let small = c.ranges.n.fits in
    let w = c.write_digits-start in
    let digits = written _ c.args.n [] w.result 10 w.new.buf w.ensures.written (omega arith) (omega arith) (omega arith) in
    put_same (digits ∙ append-nil (decimal c.args.n)) c.put_front.ensures
