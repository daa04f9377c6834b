-- No water is made and none is lost: what leaves a cell over a face comes to the cell behind that face, and nothing crosses a wall. So all new heights add up to what
-- all old ones do, whatever they are. A definition that loses something on the way, or leaves cells out of the sum, is refused here. Document 02's [8] rests on this.
use Prim.Native.Nat.{ℕ, zero, suc, ◌<◌}
use mathlib.Core.Path.{◌≡◌, refl, sym, ap, ap₂, ◌∙◌}
use native.Mathlib.Nat.{le_refl}
use native.Mathlib.Omega.{arith}
use lib.IntN.{ℤ, pos, ◌+ℤ◌, ◌-ℤ◌, +ℤ_assoc, +ℤ_idl, +ℤ_idr, +ℤ_invr, -ℤ-+ℤ_cancel}
use Rattle.rules.specs.declared.Card.{Card}
use Rattle.rules.specs.Grid.{sum, sum_at}
use Rattle.rules.specs.Site.{Water}
use Rattle.rules.specs.Step.{walled, east_transfer, north_transfer, new_height}
use Rattle.rules.proofs.Signs.{sums}
use Rattle.rules.proofs.Walls.{on_wall}

-- ---- sums of numbers that agree, and of numbers that are each a sum, or a difference

pub sum_same : (n : ℕ) (f g : ℕ → ℤ) → ((k : ℕ) → k < n → f k ≡ g k) → sum n f ≡ sum n g
unfolding sum
sum_same zero f g h = refl
sum_same (suc n) f g h = ap₂ ◌+ℤ◌ (sum_same n f g (λ k l. h k (omega arith))) (h n (le_refl (suc n)))

sum_each : (op : ℤ → ℤ → ℤ) → op (pos 0) (pos 0) ≡ pos 0 → ((a b x y : ℤ) → op a b +ℤ op x y ≡ op (a +ℤ x) (b +ℤ y))
    → (n : ℕ) (f g : ℕ → ℤ) → sum n (λ k. op (f k) (g k)) ≡ op (sum n f) (sum n g)
unfolding sum
sum_each op none two zero f g = sym none
sum_each op none two (suc n) f g = rw (sum_each op none two n f g) (two (sum n f) (sum n g) (f n) (g n))

sum_plus : (n : ℕ) (f g : ℕ → ℤ) → sum n (λ k. f k +ℤ g k) ≡ sum n f +ℤ sum n g
sum_plus = sum_each ◌+ℤ◌ refl (λ a b x y. simp sums)

sum_minus : (n : ℕ) (f g : ℕ → ℤ) → sum n (λ k. f k -ℤ g k) ≡ sum n f -ℤ sum n g
sum_minus = sum_each ◌-ℤ◌ refl (λ a b x y. simp sums)

sum_none : (n : ℕ) → sum n (λ k. pos 0) ≡ pos 0
unfolding sum
sum_none zero = refl
sum_none (suc n) = rw (sum_none n)

-- ---- what comes over each face of a row, less what goes over the next: all of it, from the first face to the last

joined : (a b c : ℤ) → a -ℤ b +ℤ (b -ℤ c) ≡ a -ℤ c
joined a b c = sym (+ℤ_assoc (a -ℤ b) b _) ∙ ap (λ (x : ℤ). x -ℤ c) (-ℤ-+ℤ_cancel a b)

passed_on : (n : ℕ) (f : ℕ → ℤ) → sum n (λ k. f k -ℤ f (suc k)) ≡ f 0 -ℤ f n
unfolding sum
passed_on zero f = sym (+ℤ_invr (f 0))
passed_on (suc n) f = rw (passed_on n f) (joined (f 0) (f n) (f (suc n)))

-- nothing, where nothing crosses the first nor the last
none_crosses : (n : ℕ) (f : ℕ → ℤ) → f 0 ≡ pos 0 → f n ≡ pos 0 → sum n (λ k. f k -ℤ f (suc k)) ≡ pos 0
none_crosses n f p q = passed_on n f ∙ ap₂ ◌-ℤ◌ p q

module _ (c : Card) (w : Water) where
  -- over the eastward faces of a row; and over all northward faces between two rows
  along : (j : ℕ) → sum c.columns (λ i. east_transfer c w i j -ℤ east_transfer c w (suc i) j) ≡ pos 0
  unfolding east_transfer walled
  along j = none_crosses c.columns (λ i. east_transfer c w i j) refl (on_wall c.columns _ c.columns (le_refl c.columns))

  abbrev northward : ℕ → ℤ
  northward j = sum c.columns (λ i. north_transfer c w i j)

  across : sum c.rows (λ j. northward j -ℤ northward (suc j)) ≡ pos 0
  unfolding north_transfer walled
  across =
      none_crosses c.rows northward (sum_none c.columns)
      (sum_same c.columns _ _ (λ i h. on_wall c.rows _ c.rows (le_refl c.rows)) ∙ sum_none c.columns)

  -- a cell: what it held, and what came, less what went, each way
  cell : (i j : ℕ) → new_height c w i j ≡ w.height i j +ℤ (east_transfer c w i j -ℤ east_transfer c w (suc i) j +ℤ (north_transfer c w i j -ℤ north_transfer c w i (suc j)))
  unfolding new_height
  cell i j = simp sums

  -- a row: what it held, and what came from the row before, less what went to the next
  row : (j : ℕ) → sum c.columns (λ i. new_height c w i j) ≡ sum c.columns (λ i. w.height i j) +ℤ (northward j -ℤ northward (suc j))
  row j =
      sum_same c.columns _ _ (λ i h. cell i j)
      ∙ sum_plus c.columns (λ i. w.height i j) _
      ∙ ap (λ (x : ℤ). sum c.columns (λ i. w.height i j) +ℤ x)
      (sum_plus c.columns (λ i. east_transfer c w i j -ℤ east_transfer c w (suc i) j) _
      ∙ ap₂ ◌+ℤ◌ (along j) (sum_minus c.columns (λ i. north_transfer c w i j) (λ i. north_transfer c w i (suc j)))
      ∙ +ℤ_idl (northward j -ℤ northward (suc j)))

  -- and all rows
  pub sum_kept : sum_at c.columns c.rows (new_height c w) ≡ sum_at c.columns c.rows w.height
  unfolding sum_at
  sum_kept =
      sum_same c.rows _ _ (λ j h. row j)
      ∙ sum_plus c.rows (λ j. sum c.columns (λ i. w.height i j)) _
      ∙ ap (λ (x : ℤ). sum c.rows (λ j. sum c.columns (λ i. w.height i j)) +ℤ x) across
      ∙ +ℤ_idr (sum c.rows (λ j. sum c.columns (λ i. w.height i j)))
