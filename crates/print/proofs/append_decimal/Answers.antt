-- `append_decimal`: a u32 has at most ten digits, so that all of them are put into the part from `at` on.
use native.Mathlib.Omega.{arith}
use Rattle.laws.specs.Decimals.{length-decimal}
use Rattle.print.proofs.Laws.{put_appended, put_ends}
use Rattle.print.proofs.append_decimal.Goals as goal

pub overflow_add-result : goal.overflow_add-result
overflow_add-result c =
    let small = c.ranges.n.fits in let short = length-decimal 9 10 c.args.n (omega arith) (omega arith) in
    let long = c.requires in
    omega (arith, put_ends c.args.at c.args.out.now c.put_decimal-k.ensures (omega arith))

pub returns : goal.returns
returns c =
    let small = c.ranges.n.fits in let short = length-decimal 9 10 c.args.n (omega arith) (omega arith) in
    let long = c.requires in
    let p = put_appended {at = c.args.at} {old = c.args.out.now} c.put_decimal-k.ensures (omega arith) in
    record { text = p; end = omega (arith, p.stop) }
