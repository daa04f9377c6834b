use mathlib.Core.Path.{◌∙◌}
use Rattle.rules.specs.Site.{write_state}
use Rattle.laws.specs.Signed.{word_is}
use Rattle.laws.specs.Passes.{begin, begin_row, place, more, more_rows, done_front}
use Rattle.laws.specs.Places.{room}
use Rattle.transfers.specs.Tide.{tide, crossings}
use Rattle.heights.proofs.tide.heights.Goals as goal

pub loop-j-init : goal.loop-j-init
loop-j-init c = begin (room _ c.requires.long).heights

pub loop-i-init : goal.loop-i-init
loop-i-init c = begin_row c.loop-j.invariant

pub new_height-requires : goal.new_height-requires
new_height-requires c =
    let p = c.requires in
    let cells = c.loop-i.invariant in
    record {
      lists = record {
        limited = p.limited;
        long = cells.same ∙ c.loop-j.invariant.same ∙ p.long;
        crossed = cells.rest ∙ c.loop-j.invariant.rest ∙ p.crossed;
      };
      column = c.loop-i-test.true;
      row = c.loop-j-test.true;
    }

pub put-requires : goal.put-requires
put-requires c = place c.loop-i.invariant c.loop-j-test.true c.loop-i-test.true

pub loop-i-preserved : goal.loop-i-preserved
loop-i-preserved c = more c.loop-i.invariant c.loop-j-test.true c.loop-i-test.true c.put.ensures
    (word_is c.new_height.result c.new_height.type_inv c.new_height.ensures)

pub loop-j-preserved : goal.loop-j-preserved
loop-j-preserved c = more_rows c.loop-j.invariant c.loop-i.invariant c.loop-j-test.true c.loop-i-test.false

pub returns : goal.returns
unfolding write_state tide crossings
returns c =
    let p = c.requires in
    record { is = done_front c.loop-j.invariant c.loop-j-test.false ∙ rw p.crossed }
