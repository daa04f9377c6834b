use mathlib.Core.Path.{◌≡◌, refl, ap, ◌∙◌}
use native.Mathlib.Omega.{arith}
use lib.IntN.{pos}
use lib.ListN.{get_or}
use Rattle.std.proofs.Common.{rules, to_z, of_z}
use Rattle.std.specs.Int.{w32}
use Rattle.rules.specs.Sheet.{bits_of}
use Rattle.words.proofs.Loops.{words_start, words_turn, words_end}
use Rattle.words.proofs.put_words.Goals as goal

pub loop-i-init : goal.loop-i-init
loop-i-init c = (refl, omega arith, refl, words_start _ _ c.args.words.now)

pub loop-i-preserved : goal.loop-i-preserved
loop-i-preserved c =
    let l = c.loop-i in
    let a = c.args in
    let z = get_or a.words.now l.i (pos 0) in
    let word : to_z w32 (of_z w32 z) ≡ z = search rules in
    let bits = c.bits_of.ensures ∙ ap bits_of word in
    let turn = words_turn a.words.now a.out.now l.out _ a.at l.i c.bits_of.result (omega arith) (omega arith) l.invariant.3 bits c.put_word.ensures in
    (refl, omega arith, c.put_word.auto.out ∙ l.invariant.2, turn)

pub returns : goal.returns
returns c =
    let l = c.loop-i in
    let a = c.args in
    words_end a.words.now a.out.now l.out a.at l.i (omega arith) l.invariant.3
