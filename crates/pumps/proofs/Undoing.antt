-- Pumps undone, the last one first: what the loop keeps, and one law for each of its needs.
use Prim.Native.Nat.{ℕ, zero, suc, ◌-◌, ◌≤◌, ◌<◌}
use mathlib.Core.Path.{◌≡◌, refl, sym, ap, ◌∙◌}
use mathlib.Core.List.{List}
use native.Mathlib.Nat.{le_refl, not-suc-le-zero}
use native.Mathlib.Omega.{arith}
use lib.IntN.{ℤ, pos, nat_abs}
use lib.ListN.{length, get_or, set, length-set}
use Rattle.rules.specs.Pumps.{pump_at}
use Rattle.pumps.specs.Acting.{back}

-- where k of the pumps are left, what they leave undone is what is asked
pub record Undoing (s₀ ps found : List ℤ) (count : ℕ) (s : List ℤ) (k : ℕ) : Type 0 where
  pub most : k ≤ count
  pub long : length s ≡ length s₀
  pub left : back ps found k s ≡ back ps found count s₀

last : (ps found : List ℤ) (k : ℕ) (s : List ℤ) → 0 < k → back ps found (k - 1) (set s (nat_abs (pump_at ps (k - 1)).cell) (get_or found (k - 1) (pos 0))) ≡ back ps found k s
unfolding back
last ps found zero s h = absurd (not-suc-le-zero h)
last ps found (suc k) s h = let one : suc k - 1 ≡ k = omega arith in rw one

module _ {s₀ ps found : List ℤ} {count : ℕ} where
  pub undo_none : Undoing s₀ ps found count s₀ count
  undo_none = record { most = le_refl count; long = refl; left = refl }

  pub undo_more : {s : List ℤ} {k cell : ℕ} {height : ℤ} → Undoing s₀ ps found count s k → 0 < k
      → cell ≡ nat_abs (pump_at ps (k - 1)).cell → height ≡ get_or found (k - 1) (pos 0) → Undoing s₀ ps found count (set s cell height) (k - 1)
  undo_more {s} {k} {cell} {height} u h e f =
      record { most = let m = u.most in omega arith; long = length-set s cell height ∙ u.long; left = rw (e, f) (last ps found k s h) ∙ u.left }

  pub undo_all : {s : List ℤ} {k : ℕ} → Undoing s₀ ps found count s k → k ≤ 0 → s ≡ back ps found count s₀
  unfolding back
  undo_all {s} {k} u h = let none : k ≡ 0 = omega arith in sym (ap (λ (n : ℕ). back ps found n s) none) ∙ u.left
