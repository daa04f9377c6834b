use mathlib.Core.Bool.{◌&&◌}
use mathlib.Core.Path.{ap, ap₂, ◌∙◌}
use native.Mathlib.Omega.{arith}
use mir.Syntax.{w32}
use mir.Facts.{to_z-of_z}
use Rattle.rules.specs.Site.{is_zero}
use Rattle.laws.specs.Gather.{gather_none, gather_more, gather_all}
use Rattle.walls.proofs.pairs_still.Goals as goal

pub loop-k-init : goal.loop-k-init
loop-k-init g c = gather_none

pub overflow_mul-at : goal.overflow_mul-at
overflow_mul-at g c = omega (arith, c.requires.within.one c.loop-k.k c.loop-k-test.true, c.requires.short)

pub word-requires : goal.word-requires
word-requires g c = c.requires.within.one c.loop-k.k c.loop-k-test.true

pub word-requires-in-loop-k : goal.word-requires-in-loop-k
word-requires-in-loop-k g c = c.requires.within.two c.loop-k.k c.loop-k-test.true

pub loop-k-preserved : goal.loop-k-preserved
loop-k-preserved g c =
    let one = c.is_zero.ensures ∙ ap is_zero (to_z-of_z {w = w32} (record { sfits = c.word.type_inv }) ∙ c.word.ensures) in
    let two = c.is_zero-in-loop-k.ensures ∙ ap is_zero (to_z-of_z {w = w32} (record { sfits = c.word-in-loop-k.type_inv }) ∙ c.word-in-loop-k.ensures) in
    gather_more c.loop-k.invariant c.loop-k-test.true (ap₂ ◌&&◌ one two)

pub returns : goal.returns
returns g c = gather_all c.loop-k.invariant c.loop-k-test.false
