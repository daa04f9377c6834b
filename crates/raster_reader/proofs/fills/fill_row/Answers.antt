use mathlib.Core.Path.{◌≡◌, sym, ap, ◌∙◌}
use mir.Syntax.{w32}
use mir.Val.{to_z, of_z}
use borrow.Author.Rules.{rules}
use Rattle.std.specs.Result.{result_ok}
use Rattle.raster_laws.specs.Filled.{row_none, row_word, row_decimal, row_small, row_more, row_all, row_left}
use Rattle.decimals.specs.Values.{value_is, alone}
use Rattle.raster_reader.proofs.fills.fill_row.Goals as goal

pub loop-cell-init : goal.loop-cell-init
loop-cell-init c = row_none c.args.row.now c.requires

pub word_start-start-requires : goal.word_start-start-requires
word_start-start-requires c = c.loop-cell.invariant.within

pub word_end-end-requires : goal.word_end-end-requires
word_end-end-requires c = row_word c.args.row.now c.requires c.loop-cell.invariant c.loop-cell-test.true c.word_start-start.ensures

pub unwrap-value-requires : goal.unwrap-value-requires
unwrap-value-requires c =
    rw (c.decimal_in.ensures, row_decimal c.args.row.now c.requires c.loop-cell.invariant c.loop-cell-test.true c.word_start-start.ensures c.word_end-end.ensures)

pub value_of-requires : goal.value_of-requires
value_of-requires c =
    let v = value_is _ (alone _ c.decimal_in.ensures (ap result_ok (sym c.unwrap-value.ensures))) in
    row_small c.args.row.now c.requires c.loop-cell.invariant c.loop-cell-test.true c.word_start-start.ensures c.word_end-end.ensures c.unwrap-value.result.minus c.unwrap-value.result.size v

pub loop-cell-preserved : goal.loop-cell-preserved
loop-cell-preserved c =
    let v = value_is _ (alone _ c.decimal_in.ensures (ap result_ok (sym c.unwrap-value.ensures))) in
    let told : to_z w32 (of_z w32 c.value_of.result) ≡ c.value_of.result = search rules in
    row_more c.args.row.now c.requires c.loop-cell.invariant c.loop-cell-test.true c.word_start-start.ensures c.word_end-end.ensures c.unwrap-value.result.minus c.unwrap-value.result.size v (told ∙ c.value_of.ensures)

pub returns : goal.returns
returns c = record {
  row = row_all c.args.row.now c.requires c.loop-cell.invariant c.loop-cell-test.false;
  left = row_left c.args.row.now c.requires c.loop-cell.invariant c.loop-cell-test.false;
}
