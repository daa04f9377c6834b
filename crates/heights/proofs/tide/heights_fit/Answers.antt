use borrow.Author.Rules.{rules}
use Rattle.laws.specs.Gather.{rows_none, row_none, row_more, rows_more, rows_all}
use Rattle.transfers.specs.Tide.{tide_fits}
use Rattle.heights.proofs.tide.heights_fit.Goals as goal

pub loop-j-init : goal.loop-j-init
loop-j-init c = rows_none

pub loop-i-init : goal.loop-i-init
loop-i-init c = row_none c.loop-j.invariant

pub height_fits-fit-requires : goal.height_fits-fit-requires
height_fits-fit-requires c = record { long = c.requires.long; column = search rules; row = search rules }

pub loop-i-preserved : goal.loop-i-preserved
loop-i-preserved c = row_more c.loop-i.invariant c.loop-i-test.true c.height_fits-fit.ensures

pub loop-j-preserved : goal.loop-j-preserved
loop-j-preserved c = rows_more c.loop-i.invariant c.loop-j-test.true c.loop-i-test.false

pub returns : goal.returns
unfolding tide_fits
returns c = rows_all c.loop-j.invariant c.loop-j-test.false
