-- `undo`: the cell of the last pump that is left gets the height that this pump found.
use Rattle.std.proofs.Common.{rules, ◌≡◌, ap, ◌∙◌, nat_abs, to_z, of_z, w32}
use Rattle.rules.specs.Pumps.{Pump}
use Rattle.pumps.proofs.Undoing.{undo_more, undo_all}
use Rattle.pumps.proofs.undo.Goals as goal

pub loop-k-preserved : goal.loop-k-preserved
loop-k-preserved c =
    let one = c.pump_at-one.result in
    let word : nat_abs (to_z w32 (of_z w32 one.cell)) ≡ nat_abs one.cell = search rules in
    undo_more c.loop-k.invariant (search rules) (word ∙ ap (λ (p : Pump). nat_abs p.cell) c.pump_at-one.ensures) (search rules)

pub returns : goal.returns
returns c = undo_all c.loop-k.invariant (search rules)
