use Rattle.std.proofs.Common.{rules}
use Rattle.std.proofs.lemmas.Iterator.Adapters.{YieldsList-from_rev_slice}
use Rattle.std.proofs.lemmas.Iterator.Consumers.{YieldsList-turn}
use Prim.Native.Nat.{ℕ, ◌-◌}
use mathlib.Core.Path.{◌≡◌, sym, ◌∙◌, subst}
use mathlib.Core.List.{List, [], ◌∷◌, ◌++◌}
use native.Mathlib.Omega.{arith}
use lib.ListN.{length, get_or, length-append}
use Rattle.pins_laws.specs.Behind.{turned}
use Rattle.pins_laws.specs.Marks.{Markable, MarkedBy}
use Rattle.pins_laws.specs.Marking.{Marking, mark_none, mark_more, mark_twice, can_be_marked}
use Rattle.pin_table.proofs.each_once.Goals as goal

pub loop-word-init : goal.loop-word-init
loop-word-init c =
    let all_left : length c.args.table.now ≡ length c.args.table.now - 0 = omega arith in
    subst (λ (k : ℕ). Marking c.args.table.now c.args.marks.now k) all_left
    (subst (λ (l : List ℕ). Marking c.args.table.now l (length c.args.table.now)) (sym c.requires.clear) mark_none)

pub mark-requires : goal.mark-requires
mark-requires c =
    let met = turned c.args.table.now (length c.loop-word.yielded) c.in-Some.word.now
    (YieldsList-turn (YieldsList-from_rev_slice c.args.table.now (search rules)) c.loop-word.yielded _ c.loop-word.yielded_by c.next.result _ c.in-Some.word c.in-Some.is c.next.ensures.steps) in
    subst (λ (w : ℕ). Markable w c.loop-word.marks) (sym met.1) (can_be_marked c.requires.fit c.loop-word.invariant met.0)

pub returns-then-not-mark : goal.returns-then-not-mark
returns-then-not-mark c =
    let met = turned c.args.table.now (length c.loop-word.yielded) c.in-Some.word.now
    (YieldsList-turn (YieldsList-from_rev_slice c.args.table.now (search rules)) c.loop-word.yielded _ c.loop-word.yielded_by c.next.result _ c.in-Some.word c.in-Some.is c.next.ensures.steps) in
    let done : MarkedBy (get_or c.args.table.now (length c.args.table.now - length c.loop-word.yielded - 1) 0) c.loop-word.marks c.mark.result c.mark.new.marks = subst (λ (w : ℕ). MarkedBy w c.loop-word.marks c.mark.result c.mark.new.marks) met.1 c.mark.ensures in
    mark_twice c.requires.fit c.loop-word.invariant met.0 (sym done.says ∙ c.if-not-mark.true)

pub loop-word-preserved : goal.loop-word-preserved
loop-word-preserved c =
    let met = turned c.args.table.now (length c.loop-word.yielded) c.in-Some.word.now
    (YieldsList-turn (YieldsList-from_rev_slice c.args.table.now (search rules)) c.loop-word.yielded _ c.loop-word.yielded_by c.next.result _ c.in-Some.word c.in-Some.is c.next.ensures.steps) in
    let done : MarkedBy (get_or c.args.table.now (length c.args.table.now - length c.loop-word.yielded - 1) 0) c.loop-word.marks c.mark.result c.mark.new.marks = subst (λ (w : ℕ). MarkedBy w c.loop-word.marks c.mark.result c.mark.new.marks) met.1 c.mark.ensures in
    let marked = mark_more c.requires.fit c.loop-word.invariant met.0 (sym done.says ∙ c.if-not-mark.false) in
    let longer = length-append c.loop-word.yielded (c.in-Some.word ∷ []) in
    let place : length c.args.table.now - length c.loop-word.yielded - 1 ≡ length c.args.table.now - length (c.loop-word.yielded ++ (c.in-Some.word ∷ [])) = omega (arith, longer) in
    subst (λ (k : ℕ). Marking c.args.table.now c.mark.new.marks k) place
    (subst (λ (l : List ℕ). Marking c.args.table.now l (length c.args.table.now - length c.loop-word.yielded - 1)) (sym done.leaves) marked)
