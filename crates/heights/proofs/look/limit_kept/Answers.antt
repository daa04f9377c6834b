use mathlib.Core.Path.{sym, ◌∙◌}
use native.Mathlib.Omega.{arith}
use borrow.Author.Rules.{rules}
use Rattle.rules.specs.Step.{within_limit, limit_kept}
use Rattle.laws.specs.Looks.{begin, begin_row, more, more_rows, whole_row, done, broke}
use Rattle.still.specs.Rows.{CellsStill}
use Rattle.heights.proofs.Still.{still_within}
use Rattle.heights.proofs.look.limit_kept.Goals as goal

pub look-init : goal.look-init
look-init c = begin

pub bounds-marks-j : goal.bounds-marks-j
bounds-marks-j c = omega (arith, c.requires.marked.room)

-- a still row is passed over
pub look-preserved-then-marks-j : goal.look-preserved-then-marks-j
look-preserved-then-marks-j c =
    let h = c.look-test.true in
    let still : CellsStill _ _ _ = record { cells = sym (c.requires.marked.is _ h) ∙ c.if-marks-j.true } in
    whole_row c.look.invariant h (λ i k. still_within still i (record { column = k; row = h }))

pub loop-i-init : goal.loop-i-init
loop-i-init c = begin_row c.look.invariant

pub keeps_limit-requires : goal.keeps_limit-requires
keeps_limit-requires c = record { sound = c.requires.sound; column = search rules; row = search rules }

pub loop-i-preserved : goal.loop-i-preserved
loop-i-preserved c = more c.loop-i.invariant c.loop-i-test.true (sym c.keeps_limit.ensures ∙ c.if-not-keeps_limit.false)

pub look-preserved : goal.look-preserved
look-preserved c = more_rows c.loop-i.invariant c.look-test.true c.loop-i-test.false

pub returns-after-look : goal.returns-after-look
unfolding limit_kept
returns-after-look c = done c.look.invariant c.look-test.false

pub returns-then-not-keeps_limit : goal.returns-then-not-keeps_limit
unfolding limit_kept
returns-then-not-keeps_limit c = broke (within_limit _ _) c.look-test.true c.loop-i-test.true
    (sym c.keeps_limit.ensures ∙ c.if-not-keeps_limit.true)
