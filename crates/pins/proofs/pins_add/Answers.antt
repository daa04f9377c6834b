-- `pins_add`: refused, and the table stays; or done, and one place changed.
use native.Mathlib.Omega.{arith}
use Prim.Native.Nat.{ℕ}
use Rattle.pins_rules.specs.Table.{first_changed, with_pin}
use mathlib.Core.Path.{sym, ◌∙◌, ap}
use Rattle.pins_laws.specs.Refusing.{number-ne0}
use Rattle.pins_laws.specs.Granted.{add_granted}
use Rattle.pins.proofs.Answers.{add_refused, add_done}
use Rattle.pins.proofs.pins_add.Goals as goal

pub returns-in-Err : goal.returns-in-Err
returns-in-Err c = add_refused (c.from.ensures ∙ c.in-Err.ensures) (λ z. number-ne0 c.in-Err.refusal (sym c.from.ensures ∙ z))

pub pin-requires : goal.pin-requires
pin-requires c = let g = add_granted _ _ _ (sym c.in_default.ensures) in (omega (arith, g.asked.known.most), g.asked.below)

pub returns : goal.returns
unfolding with_pin
returns c = add_done (sym c.in_default.ensures) (c.change.ensures ∙ ap (λ (w : ℕ). first_changed 0 w c.args.table.now) c.pin.ensures)
