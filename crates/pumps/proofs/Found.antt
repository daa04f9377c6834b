-- The heights that pumps found: undoing reads none behind the pumps that it undoes, and one more pump is undone by the height that it found.
use Prim.Native.Nat.{ℕ, zero, suc, ◌+◌, ◌≤◌, ◌<◌}
use mathlib.Core.Path.{◌≡◌, refl, ap, ◌∙◌}
use mathlib.Core.List.{List}
use native.Mathlib.Nat.{le_refl, lt_irrefl}
use native.Mathlib.Numerals.{add-one}
use native.Mathlib.Omega.{arith}
use lib.IntN.{ℤ, pos, nat_abs}
use lib.ListN.{length, get_or, set}
use lib.Seq.{get_or-set_same, get_or-set_other, set-set, set-get_or}
use Rattle.rules.specs.Pumps.{pump_at, height_at}
use Rattle.pumps.specs.Acting.{back}

module _ (ps found : List ℤ) (k : ℕ) (height : ℤ) where
  read_before : (n : ℕ) (s : List ℤ) → n ≤ k → back ps (set found k height) n s ≡ back ps found n s
  unfolding back
  read_before zero s h = refl
  read_before (suc n) s h =
      rw (get_or-set_other found k n height (pos 0) (λ e. lt_irrefl n (omega (arith, h, e))))
      (read_before n (set s (nat_abs (pump_at ps n).cell) (get_or found n (pos 0))) (omega arith))

  pub back_more : (s : List ℤ) (after : ℤ) → k < length found → height ≡ height_at (pump_at ps k) s
      → back ps (set found k height) (k + 1) (set s (nat_abs (pump_at ps k).cell) after) ≡ back ps found k s
  unfolding back
  back_more s after h e =
      let cell = nat_abs (pump_at ps k).cell in
      let restored : set (set s cell after) cell (get_or (set found k height) k (pos 0)) ≡ s =
      rw (get_or-set_same found k height (pos 0) h, set-set s cell after height, e, set-get_or s cell (pos 0)) in
      ap (λ (n : ℕ). back ps (set found k height) n (set s cell after)) (add-one k)
      ∙ ap (λ (t : List ℤ). back ps (set found k height) k t) restored
      ∙ read_before k s (le_refl k)
