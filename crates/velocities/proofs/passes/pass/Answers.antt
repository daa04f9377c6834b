use Prim.Native.Nat.{◌*◌}
use mathlib.Core.Path.{sym, ap₂, ◌∙◌}
use mathlib.Core.Bool.{not}
use native.Mathlib.Nat.{le_refl}
use native.Mathlib.Omega.{arith}
use borrow.Author.Tests.{not-true}
use Rattle.laws.specs.Tests.{true_of, and_left, and_right, to_T}
use Rattle.laws.specs.Passes.{place}
use Rattle.laws.specs.Tested.{begin, begin_row, more, more_rows, done, left}
use Rattle.still.proofs.Rows.{both_rows}
use Rattle.velocities.proofs.Speeds.{speed_says, speed_fits_word, speed_word}
use Rattle.velocities.proofs.passes.pass.Goals as goal

pub loop-j-init : goal.loop-j-init
loop-j-init g c = begin (rw (c.high-high.ensures, c.wide-wide.ensures, c.requires.long) (le_refl _))

pub both_still-requires : goal.both_still-requires
both_still-requires g c = record { room = c.requires.marked.room; row = rw c.high-high.ensures at c.loop-j-test.true }

pub loop-i-init : goal.loop-i-init
loop-i-init g c = begin_row c.loop-j.invariant

pub velocity-u-requires : goal.velocity-u-requires
velocity-u-requires g c = record {
  face = record { column = omega (arith, c.wide-wide.ensures); row = omega (arith, c.high-high.ensures) };
  both = λ t. both_rows c.requires.marked _ (omega (arith, c.high-high.ensures)) (sym c.both_still.ensures ∙ true_of _ (and_right (not c.TEXTBOOK.result) _ (to_T t)));
  first_engine = λ t. sym c.TEXTBOOK.ensures ∙ not-true _ (true_of _ (and_left (not c.TEXTBOOK.result) _ (to_T t)));
}

pub returns-then-not-speed_fits : goal.returns-then-not-speed_fits
returns-then-not-speed_fits g c =
    let v = c.velocity-u in
    rw (← c.wide-wide.ensures, ← c.high-high.ensures)
    (left c.loop-i.invariant c.loop-j-test.true c.loop-i-test.true
    (sym (speed_says v.result v.type_inv v.ensures c.speed_fits.ensures) ∙ c.if-not-speed_fits.true))

pub overflow_cast-u : goal.overflow_cast-u
overflow_cast-u g c =
    let v = c.velocity-u in
    speed_fits_word v.result v.type_inv v.ensures c.speed_fits.ensures (c.if-not-speed_fits.false)

pub put-requires : goal.put-requires
put-requires g c = place c.loop-i.invariant.filled c.loop-j-test.true c.loop-i-test.true

pub loop-i-preserved : goal.loop-i-preserved
loop-i-preserved g c =
    let fits = c.if-not-speed_fits.false in
    let v = c.velocity-u in
    more c.loop-i.invariant c.loop-j-test.true c.loop-i-test.true c.put.ensures
    (speed_word v.result v.type_inv v.ensures c.speed_fits.ensures fits)
    (sym (speed_says v.result v.type_inv v.ensures c.speed_fits.ensures) ∙ fits)

pub loop-j-preserved : goal.loop-j-preserved
loop-j-preserved g c = more_rows c.loop-j.invariant c.loop-i.invariant c.loop-j-test.true c.loop-i-test.false

pub returns : goal.returns
returns g c = rw (← c.wide-wide.ensures, ← c.high-high.ensures)
    (done c.loop-j.invariant c.loop-j-test.false (c.requires.long ∙ sym (ap₂ ◌*◌ c.high-high.ensures c.wide-wide.ensures)))
