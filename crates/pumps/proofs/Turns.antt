-- One pump at its turn, on the words that the code computes with: each is the number that it stands for.
use Rattle.std.specs.Prelude.{FitsSigned}
use Prim.Native.Nat.{ℕ}
use mathlib.Core.Path.{◌≡◌, ap, ap₂, ◌∙◌}
use native.Mathlib.Nat.{le_trans}
use lib.IntN.{ℤ, pos, nat_abs, ◌+ℤ◌, ◌-ℤ◌}
use mir.Syntax.{w32}
use mir.Val.{to_z, of_z}
use Rattle.std.specs.Int.{int_min, int_max}
use Rattle.rules.specs.Pumps.{Pump, adds, height_after}
use Rattle.laws.specs.Outward.{forward_size, backward_size}
use Rattle.laws.specs.Pumped.{takes_amount}
use Rattle.laws.specs.Exact.{Node, fits, read, value, int, result, neg, add, sub}
use Rattle.pumps.specs.Acting.{Turning, Turned}
use Rattle.pumps.proofs.Amounts.{adds_max, wants_max, takes_min}

module _ {p : Pump} {h : ℤ} (t : Turning p h) where
  abbrev pub amount : Node w32
  amount = int t.amount tt

  abbrev pub turned : Node w32
  turned = neg amount

  abbrev pub height : Node w32
  height = int t.height_size tt

  module _ {plus wanted less : ℤ} (plus_is : plus ≡ int_max (read amount) (pos 0)) (wanted_is : wanted ≡ int_max (read turned) (pos 0)) (less_is : less ≡ int_min (to_z w32 (of_z w32 wanted)) (read height)) where
    abbrev pub added : Node w32
    added = result (plus_is ∙ ap (λ (z : ℤ). int_max z (pos 0)) (value amount) ∙ adds_max p.amount) (record { size = le_trans (forward_size p.amount) t.amount.size }) tt

    abbrev pub wants : Node w32
    wants = result (wanted_is ∙ ap (λ (z : ℤ). int_max z (pos 0)) (value turned) ∙ wants_max p.amount) (record { size = le_trans (backward_size p.amount) t.amount.size }) tt

    abbrev pub taken : Node w32
    taken = result (less_is ∙ ap₂ int_min (value wants) (value height) ∙ takes_min p h t.height_low) (record { size = le_trans (takes_amount p h) t.amount.size }) tt

    abbrev pub raised : Node w32
    raised = add height added tt

    abbrev pub after : Node w32
    after = sub raised taken tt

    pub fits_raised : FitsSigned w32 (read height +ℤ read added)
    fits_raised = fits raised

    pub fits_after : FitsSigned w32 (read raised -ℤ read taken)
    fits_after = fits after

    pub turned_is : {a k : ℕ} → a ≡ nat_abs (to_z w32 (of_z w32 plus)) → k ≡ nat_abs (to_z w32 (of_z w32 less)) → Turned p h (record { added = a; taken = k; after = read after })
    unfolding height_after adds
    turned_is a_is k_is = record { added = a_is ∙ ap nat_abs (value added); taken = k_is ∙ ap nat_abs (value taken); after = value after }
