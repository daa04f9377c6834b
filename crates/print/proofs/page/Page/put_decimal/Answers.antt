-- `put_decimal`: a u32 has at most ten digits.
use Rattle.std.proofs.Common.{arith}
use Rattle.laws.specs.Decimals.{length-decimal}
use Rattle.print.proofs.Pages.{page_shows, page_long}
use Rattle.print.proofs.page.Page.put_decimal.Goals as goal

pub returns-clause-text : goal.returns-clause-text
returns-clause-text c =
    let small = c.ranges.n.fits in
    page_shows c.self.inside.room c.self.told c.self.invariant c.self.view_is c.put_decimal.ensures (omega (arith, length-decimal 9 10 c.args.n (omega arith) (omega arith), c.requires))

pub returns-clause-end : goal.returns-clause-end
returns-clause-end c =
    let small = c.ranges.n.fits in
    let short = length-decimal 9 10 c.args.n (omega arith) (omega arith) in
    page_long c.self.inside.room c.self.told c.self.invariant c.self.view_is c.put_decimal.ensures (omega (arith, short, c.requires)) short
