-- `put_depth`: a depth text has at most 7 bytes.
use Rattle.std.proofs.Common.{arith}
use Rattle.print.proofs.Lengths.{length_depth}
use Rattle.print.proofs.Pages.{page_shows, page_ends, page_long, depth_put}
use Rattle.print.proofs.page.Page.put_depth.Goals as goal

pub overflow_add-self : goal.overflow_add-self
overflow_add-self c =
    let p = depth_put c.args.height c.ranges.height c.write_text.ensures.length c.write_text.ensures.scratch in
    record { fits = omega (arith, page_ends c.self.inside.room c.self.told c.self.invariant c.self.view_is p (omega (arith, length_depth c.args.height, c.requires))) }

pub invariant_of-self : goal.invariant_of-self
invariant_of-self c =
    let p = depth_put c.args.height c.ranges.height c.write_text.ensures.length c.write_text.ensures.scratch in
    page_ends c.self.inside.room c.self.told c.self.invariant c.self.view_is p (omega (arith, length_depth c.args.height, c.requires))

pub returns-clause-text : goal.returns-clause-text
returns-clause-text c =
    let p = depth_put c.args.height c.ranges.height c.write_text.ensures.length c.write_text.ensures.scratch in
    page_shows c.self.inside.room c.self.told c.self.invariant c.self.view_is p (omega (arith, length_depth c.args.height, c.requires))

pub returns-clause-end : goal.returns-clause-end
returns-clause-end c =
    let p = depth_put c.args.height c.ranges.height c.write_text.ensures.length c.write_text.ensures.scratch in
    page_long c.self.inside.room c.self.told c.self.invariant c.self.view_is p (omega (arith, length_depth c.args.height, c.requires)) (length_depth c.args.height)
