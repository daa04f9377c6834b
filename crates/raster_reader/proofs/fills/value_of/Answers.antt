-- `value_of`: the size fits a word, and so does its negation.
use mathlib.Core.Path.{sym, ap, ◌∙◌}
use mathlib.Core.Bool.{Bool}
use mir.Syntax.{w32}
use Rattle.rules.specs.Raster.{signed}
use Rattle.laws.specs.Exact.{Node, nat, neg, value}
use Rattle.raster_reader.proofs.fills.value_of.Goals as goal

pub returns-then-value : goal.returns-then-value
unfolding signed
returns-then-value c =
    let size : Node w32 = nat {N = 50000000} c.requires tt in
    value (neg size) ∙ sym (ap (λ (t : Bool). signed t c.args.value.size) c.if-value.true)

pub returns : goal.returns
unfolding signed
returns c =
    let size : Node w32 = nat {N = 50000000} c.requires tt in
    value size ∙ sym (ap (λ (t : Bool). signed t c.args.value.size) c.if-value.false)
