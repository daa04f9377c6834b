-- A look at every place in two nested loops over rows and columns, left at the first that fails a test: what each loop keeps, and one law for each need.
use Rattle.std.specs.Prelude.{◌≡◌, refl, Bool, true, false, ℕ, ◌+◌, ◌≤◌, ◌<◌, T}
use Rattle.std.proofs.Common.{◌∙◌, sym, arith}
use Rattle.rules.specs.Grid.{all, all_at}
use Rattle.laws.specs.Tests.{true_of, to_T}
use Rattle.laws.specs.Grids.{all_intro, all_more, all_end, all_none, all_at_more, all_at_end, all_at_none, all_at_broken}

-- the outer loop: every place of the rows below j passed
pub record RowsPass (columns rows : ℕ) (p : ℕ → ℕ → Bool) (good : Bool) (j : ℕ) : Type 0 where
  pub most : j ≤ rows
  pub so_far : good ≡ true
  pub is : T (all_at columns j p)

-- the inner loop: and those below i of row j
pub record CellsPass (columns rows : ℕ) (p : ℕ → ℕ → Bool) (j : ℕ) (good : Bool) (i : ℕ) : Type 0 where
  pub most : i ≤ columns
  pub so_far : good ≡ true
  pub below : T (all_at columns j p)
  pub is : T (all i (λ k. p k j))

module _ {columns rows : ℕ} {p : ℕ → ℕ → Bool} where
  pub begin : RowsPass columns rows p true 0
  begin = record { most = omega arith; so_far = refl; is = all_at_none columns p }

  pub begin_row : {good : Bool} {j : ℕ} → RowsPass columns rows p good j → CellsPass columns rows p j good 0
  begin_row {good} {j} h = record { most = omega arith; so_far = h.so_far; below = h.is; is = all_none (λ k. p k j) }

  pub more : {good : Bool} {j i : ℕ} → CellsPass columns rows p j good i → i < columns → p i j ≡ true → CellsPass columns rows p j good (i + 1)
  more {good} {j} {i} h hi e =
      record { most = omega arith; so_far = h.so_far; below = h.below; is = all_more i (λ k. p k j) h.is (to_T e) }

  pub more_rows : {good : Bool} {j i : ℕ} → CellsPass columns rows p j good i → j < rows → columns ≤ i → RowsPass columns rows p good (j + 1)
  more_rows {good} {j} {i} h hj hi =
      record {
        most = omega arith;
        so_far = h.so_far;
        is = all_at_more columns j p h.below (all_end columns i (λ k. p k j) h.most hi h.is);
      }

  -- a row that is passed over, since every place of it is known to pass
  pub whole_row : {good : Bool} {j : ℕ} → RowsPass columns rows p good j → j < rows → ((i : ℕ) → i < columns → p i j ≡ true) → RowsPass columns rows p good (j + 1)
  whole_row {good} {j} h hj f =
      record {
        most = omega arith;
        so_far = h.so_far;
        is = all_at_more columns j p h.is (all_intro columns (λ k. p k j) (λ i hi. to_T (f i hi)));
      }

  pub done : {good : Bool} {j : ℕ} → RowsPass columns rows p good j → rows ≤ j → good ≡ all_at columns rows p
  done {good} {j} h hj = h.so_far ∙ sym (true_of (all_at columns rows p) (all_at_end columns rows j p h.most hj h.is))

pub broke : {columns rows : ℕ} (p : ℕ → ℕ → Bool) {j i : ℕ} → j < rows → i < columns → p i j ≡ false → false ≡ all_at columns rows p
broke {columns} {rows} p {j} {i} hj hi e = sym (all_at_broken columns rows p i j hi hj (rw e tt))
