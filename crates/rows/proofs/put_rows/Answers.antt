use Rattle.std.proofs.Common.{refl, arith, ◌≡◌, ◌++◌}
use Rattle.rules.specs.Play.{line_feed, row_texts, row_lines}
use Rattle.rows.proofs.Loops.{printing_none, printing_more, printed_all}
use Rattle.rows.proofs.put_rows.Goals as goal

pub loop-j-init : goal.loop-j-init
unfolding row_lines
loop-j-init c = printing_none refl

pub put_row-requires : goal.put_row-requires
put_row-requires c =
    let p = c.requires in
    record {
      rows = record { narrow = p.narrow; short = p.short; held = p.held; space = omega (arith, c.loop-j.invariant.far, p.space, p.short) };
      row = c.loop-j-test.true;
    }

pub loop-j-preserved : goal.loop-j-preserved
unfolding row_lines
loop-j-preserved c =
    let a = c.args in
    printing_more (row_texts a.card a.state.now c.loop-j.j a.card.columns ++ line_feed) c.loop-j.invariant refl c.put_row.ensures.text c.put_row.ensures.end

pub returns : goal.returns
returns c = let e : c.loop-j.j ≡ c.args.card.rows = omega arith in (printed_all c.loop-j.invariant e).shown
