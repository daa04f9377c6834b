-- A loop that gathers a test at every place and is never left early, and two nested ones over rows and columns: what each keeps, and one law for each need.
use Rattle.std.specs.Prelude.{ℕ, ◌+◌, ◌≤◌, ◌<◌, ◌≡◌, Bool, true}
use Rattle.std.proofs.Common.{zero-le, ap₂, ◌∙◌, le_antisymm, arith}
use Rattle.std.proofs.Math.Path.{refl, sym, ap}
use Rattle.std.proofs.Math.Bool.{◌&&◌, and-true, and_assoc}
use Rattle.std.proofs.Math.Numerals.{add-one}
use Rattle.rules.specs.Grid.{all, all_at}

-- `ok` says whether the first k of n places passed
pub record Gathered (n : ℕ) (p : ℕ → Bool) (ok : Bool) (k : ℕ) : Type 0 where
  pub most : k ≤ n
  pub is : ok ≡ all k p

module _ {n : ℕ} {p : ℕ → Bool} where
  pub gather_none : Gathered n p true 0
  unfolding all
  gather_none = record { most = zero-le; is = refl }

  pub gather_more : {ok r : Bool} {k : ℕ} → Gathered n p ok k → k < n → r ≡ p k → Gathered n p (ok && r) (k + 1)
  unfolding all
  gather_more {ok} {r} {k} g h e = record { most = omega arith; is = rw add-one (ap₂ ◌&&◌ g.is e) }

  pub gather_all : {ok : Bool} {k : ℕ} → Gathered n p ok k → n ≤ k → ok ≡ all n p
  gather_all g h = g.is ∙ ap (λ (m : ℕ). all m p) (le_antisymm g.most h)

-- ---- two nested loops over rows and columns

-- the outer loop: `ok` says whether every place of the rows below j passed
pub record RowsGathered (columns rows : ℕ) (p : ℕ → ℕ → Bool) (ok : Bool) (j : ℕ) : Type 0 where
  pub most : j ≤ rows
  pub is : ok ≡ all_at columns j p

-- the inner loop: and those below i of row j
pub record CellsGathered (columns : ℕ) (p : ℕ → ℕ → Bool) (j : ℕ) (ok : Bool) (i : ℕ) : Type 0 where
  pub most : i ≤ columns
  pub is : ok ≡ (all_at columns j p && all i (λ k. p k j))

module _ {columns rows : ℕ} {p : ℕ → ℕ → Bool} where
  pub rows_none : RowsGathered columns rows p true 0
  unfolding all all_at
  rows_none = record { most = zero-le; is = refl }

  pub row_none : {ok : Bool} {j : ℕ} → RowsGathered columns rows p ok j → CellsGathered columns p j ok 0
  unfolding all
  row_none {ok} {j} g = record { most = zero-le; is = g.is ∙ sym (and-true (all_at columns j p)) }

  pub rows_more : {ok : Bool} {j i : ℕ} → CellsGathered columns p j ok i → j < rows → columns ≤ i → RowsGathered columns rows p ok (j + 1)
  unfolding all all_at
  rows_more {ok} {j} {i} g hj hi =
      record { most = omega arith; is = rw add-one (g.is ∙ ap (λ (m : ℕ). all_at columns j p && all m (λ k. p k j)) (le_antisymm g.most hi)) }

  pub rows_all : {ok : Bool} {j : ℕ} → RowsGathered columns rows p ok j → rows ≤ j → ok ≡ all_at columns rows p
  rows_all g h = g.is ∙ ap (λ (m : ℕ). all_at columns m p) (le_antisymm g.most h)

pub row_more : {columns : ℕ} {p : ℕ → ℕ → Bool} {ok r : Bool} {j i : ℕ} → CellsGathered columns p j ok i → i < columns → r ≡ p i j → CellsGathered columns p j (ok && r) (i + 1)
unfolding all
row_more {columns} {p} {ok} {r} {j} {i} g h e = record { most = omega arith; is = rw add-one (ap₂ ◌&&◌ g.is e ∙ and_assoc (all_at columns j p) (all i (λ k. p k j)) (p i j)) }
