use mathlib.Core.Path.{refl, ◌∙◌}
use native.Mathlib.Omega.{arith}
use lib.ListN.{drop, length-set}
use mir.Syntax.{w32}
use mir.ValLaws.{to_z-of_z}
use Rattle.words.proofs.Loops.{in_start, in_turn, in_end}
use Rattle.words.proofs.get_words.Goals as goal

pub loop-i-init : goal.loop-i-init
loop-i-init c = (refl, omega arith, refl, in_start _ _)

pub loop-i-preserved : goal.loop-i-preserved
loop-i-preserved c =
    let l = c.loop-i in
    let a = c.args in
    let word = to_z-of_z w32 c.word_at.result (record { sfits = c.word_at.type_inv }) ∙ c.word_at.ensures in
    (refl, omega arith, length-set l.words l.i _ ∙ l.invariant.2, in_turn a.words.now l.words l.i a.at a.s.now _ (omega arith) l.invariant.3 word)

pub returns : goal.returns
returns c =
    let l = c.loop-i in
    let a = c.args in
    l.invariant.3 ∙ in_end a.words.now l.i (drop a.at a.s.now) (omega arith)
