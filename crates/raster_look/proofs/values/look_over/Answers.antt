use mathlib.Core.Path.{refl, ap, ◌∙◌}
use native.Mathlib.Omega.{arith}
use Rattle.std.specs.Prelude.{option_map}
use Rattle.decimals.specs.Values.{value_of, value_is, alone}
use Rattle.raster_laws.specs.Found.{has_passed, has_failed}
use Rattle.raster_laws.specs.Looks.{value_fits, look_none, look_word, look_not, look_more, look_all}
use Rattle.raster_look.proofs.values.look_over.Goals as goal

pub loop-p-init : goal.loop-p-init
loop-p-init c = look_none refl c.word_start-p.ensures

pub word_end-end-requires : goal.word_end-end-requires
word_end-end-requires c = look_word c.loop-p.invariant c.loop-p-test.true

pub returns-in_err-value : goal.returns-in_err-value
returns-in_err-value c =
    let d = alone _ c.decimal_in.ensures c.in_err-value.ensures.value in
    rw c.from_residual.ensures (look_not c.loop-p.invariant c.loop-p-test.true c.word_end-end.ensures (has_failed _ _ d))

pub overflow_add-count : goal.overflow_add-count
overflow_add-count c = let few = c.loop-p.invariant.few in let less = c.loop-p-test.true in omega arith

pub word_start-p-requires-in-loop-p : goal.word_start-p-requires-in-loop-p
word_start-p-requires-in-loop-p c = c.word_end-end.ensures.within

pub loop-p-smaller : goal.loop-p-smaller
loop-p-smaller c = let b = c.word_end-end.ensures.behind in let f = c.word_start-p-in-loop-p.ensures.from in let w = c.word_start-p-in-loop-p.ensures.within in omega (arith, c.loop-p-test.true)

pub loop-p-preserved : goal.loop-p-preserved
loop-p-preserved c =
    let d = alone _ c.decimal_in.ensures c.in_ok-value.ensures.value in
    look_more c.loop-p.invariant c.loop-p-test.true c.word_end-end.ensures (has_passed _ _ d) (c.value_fits-fit.ensures ∙ ap (value_fits (option_map value_of c.args.no_data)) (value_is _ d)) c.word_start-p-in-loop-p.ensures

pub returns : goal.returns
returns c = look_all c.loop-p.invariant c.loop-p-test.false
