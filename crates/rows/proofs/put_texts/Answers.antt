use Rattle.std.proofs.Common.{refl, arith, ◌≡◌}
use Rattle.rules.specs.Play.{row_texts, cell_text}
use Rattle.rows.proofs.Loops.{printing_none, printing_more, printed_all}
use Rattle.rows.proofs.put_texts.Goals as goal

pub loop-i-init : goal.loop-i-init
unfolding row_texts
loop-i-init c = printing_none refl

pub put_cell-requires : goal.put_cell-requires
put_cell-requires c =
    let p = c.requires.rows in
    record {
      rows = record { narrow = p.narrow; short = p.short; held = p.held; space = omega (arith, c.loop-i.invariant.far, p.space) };
      row = c.requires.row;
      column = c.loop-i-test.true;
    }

pub loop-i-preserved : goal.loop-i-preserved
unfolding row_texts
loop-i-preserved c =
    let a = c.args in
    printing_more (cell_text a.card a.state.now c.loop-i.i a.j) c.loop-i.invariant refl c.put_cell.ensures.text c.put_cell.ensures.end

pub returns-clause-text : goal.returns-clause-text
returns-clause-text c = let e : c.loop-i.i ≡ c.args.card.columns = omega arith in (printed_all c.loop-i.invariant e).shown

pub returns-clause-end : goal.returns-clause-end
returns-clause-end c = let e : c.loop-i.i ≡ c.args.card.columns = omega arith in (printed_all c.loop-i.invariant e).far
