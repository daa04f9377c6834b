use Rattle.std.proofs.lemmas.List.{get_or-take}
use mathlib.Core.Path.{sym, ◌∙◌, ap₂}
use mathlib.Core.List.{List}
use native.Mathlib.Omega.{arith}
use lib.IntN.{ℤ}
use lib.Seq.{length-take-le}
use Rattle.rules.specs.declared.Chamber.{Chamber}
use Rattle.records.specs.Row.{none, put_at, gathered_none, gathered_more}
use Rattle.records.proofs.gather.Goals as goal

pub loop-i-init : goal.loop-i-init
loop-i-init c = sym (gathered_none c.args.row.now)

pub loop-i-preserved : goal.loop-i-preserved
loop-i-preserved c =
    let i = c.loop-i.i in
    c.put.ensures
    ∙ ap₂ (λ (both : List ℤ) (chamber : Chamber). put_at both i chamber) c.loop-i.invariant (get_or-take c.args.n c.args.row.now i none (omega (arith, c.loop-i-test.true, length-take-le c.args.n c.args.row.now c.requires.most)))
    ∙ sym (gathered_more c.args.row.now i)
