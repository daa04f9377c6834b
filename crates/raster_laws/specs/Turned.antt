-- Rows the other way round: each value of the one is a value of the other, and turned twice the list is as it was.
use Rattle.std.specs.Prelude.{ℕ, ◌+◌, ◌*◌, ◌-◌, ◌/◌, ◌%◌, ◌<◌, ◌≡◌, List, ℤ, pos, length}
use Rattle.std.proofs.Common.{sym, ap, ◌∙◌, div-add-mod', mod-lt, div-lt_iff_lt-mul, arith}
use Rattle.std.proofs.Math.ListN.{get_or}
use Rattle.rules.specs.Grid.{tabulate}
use Rattle.rules.specs.Raster.{rows_turned}
use Rattle.laws.specs.Grids.{tabulate_read, grid-flat, grid_same, get_d_grid, length-grid, pos_columns}

module _ (m n : ℕ) (l : List ℤ) where
  pub length-turned : length (rows_turned m n l) ≡ n * m
  unfolding rows_turned
  length-turned = length-grid m n (λ i j. get_or l ((n - 1 - j) * m + i) (pos 0))

  pub turned_at : (i j : ℕ) → i < m → j < n → get_or (rows_turned m n l) (j * m + i) (pos 0) ≡ get_or l ((n - 1 - j) * m + i) (pos 0)
  unfolding rows_turned
  turned_at i j hi hj = get_d_grid m n (λ i j. get_or l ((n - 1 - j) * m + i) (pos 0)) i j (pos 0) hi hj

  -- what holds of every value holds of those of the list turned
  pub turned_keeps : (P : ℤ → Type 0) → ((i j : ℕ) → i < m → j < n → P (get_or l (j * m + i) (pos 0))) → (k : ℕ) → k < n * m → P (get_or (rows_turned m n l) k (pos 0))
  turned_keeps P h k b =
      let some : 0 < m = pos_columns m n k b in
      let row : k / m < n = (div-lt_iff_lt-mul some).1 b in
      let e : get_or (rows_turned m n l) k (pos 0) ≡ get_or l ((n - 1 - k / m) * m + k % m) (pos 0) =
      ap (λ (x : ℕ). get_or (rows_turned m n l) x (pos 0)) (sym (div-add-mod' k m)) ∙ turned_at (k % m) (k / m) (mod-lt k some) row in
      rw e (h (k % m) (n - 1 - k / m) (mod-lt k some) (omega arith))

pub turned_twice : (m n : ℕ) (l : List ℤ) → length l ≡ n * m → rows_turned m n (rows_turned m n l) ≡ l
unfolding rows_turned
turned_twice m n l e =
    grid_same m n _ (λ i j. get_or l (j * m + i) (pos 0))
    (λ i j hi hj.
    let back : n - 1 - (n - 1 - j) ≡ j = omega arith in
    turned_at m n l i (n - 1 - j) hi (omega arith) ∙ ap (λ (x : ℕ). get_or l (x * m + i) (pos 0)) back)
    ∙ grid-flat m n (λ k. get_or l k (pos 0))
    ∙ ap (λ (k : ℕ). tabulate k (λ k. get_or l k (pos 0))) (sym e)
    ∙ tabulate_read l (pos 0)
