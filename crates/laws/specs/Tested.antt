-- A pass that fills a lent list with a field and tests each value, left at the first that fails: what each loop keeps, and one law for each need.
use Rattle.std.specs.Prelude.{◌≡◌, Bool, true, false, ◌&&◌, List, ℕ, ◌+◌, ◌*◌, ◌≤◌, ◌<◌, ℤ, length, set}
use Rattle.std.proofs.Common.{◌∙◌, sym, ap, subst}
use Rattle.std.proofs.lemmas.Bool.{false≢true}
use Rattle.rules.specs.Grid.{Field, grid, all_at}
use Rattle.laws.specs.Passes as pass
use Rattle.laws.specs.Looks as look

-- what such a pass returns, `fits`, says whether every value passes, and where it is true the list that was lent holds them
pub record Filled (every : Bool) (values : List ℤ) (fits : Bool) (lent : List ℤ) : Type 0 where
  pub every_one : fits ≡ every
  pub is : fits ≡ true → lent ≡ values

-- the outer loop, and the inner loop
pub record RowsTested (columns : ℕ) (f : Field) (p : ℤ → Bool) (rows : ℕ) (old next : List ℤ) (j : ℕ) : Type 0 where
  pub filled : pass.Rows columns f rows old next j
  pub passed : look.RowsPass columns rows (λ i j. p (f i j)) true j

pub record CellsTested (columns : ℕ) (f : Field) (p : ℤ → Bool) (rows j : ℕ) (start next : List ℤ) (i : ℕ) : Type 0 where
  pub filled : pass.Cells columns f rows j start next i
  pub passed : look.CellsPass columns rows (λ i j. p (f i j)) j true i

module _ {columns rows : ℕ} {f : Field} {p : ℤ → Bool} where
  pub begin : {old : List ℤ} → rows * columns ≤ length old → RowsTested columns f p rows old old 0
  begin h = record { filled = pass.begin h; passed = look.begin }

  pub begin_row : {old start : List ℤ} {j : ℕ} → RowsTested columns f p rows old start j → CellsTested columns f p rows j start start 0
  begin_row h = record { filled = pass.begin_row h.filled; passed = look.begin_row h.passed }

  module _ {j : ℕ} {start next : List ℤ} where
    -- a value that passes, stored
    pub more : {i : ℕ} {v : ℤ} {after : List ℤ} → CellsTested columns f p rows j start next i → j < rows → i < columns
        → after ≡ set next (j * columns + i) v → v ≡ f i j → p (f i j) ≡ true → CellsTested columns f p rows j start after (i + 1)
    more h hj hi s e t = record { filled = pass.more h.filled hj hi s e; passed = look.more h.passed hi t }

    pub more_rows : {old : List ℤ} {i : ℕ} → RowsTested columns f p rows old start j → CellsTested columns f p rows j start next i → j < rows → columns ≤ i
        → RowsTested columns f p rows old next (j + 1)
    more_rows g h hj hi = record { filled = pass.more_rows g.filled h.filled hj hi; passed = look.more_rows h.passed hj hi }

  pub done : {old next : List ℤ} {j : ℕ} → RowsTested columns f p rows old next j → rows ≤ j → length old ≡ rows * columns
      → Filled (all_at columns rows (λ i j. p (f i j))) (grid columns rows f) true next
  done h hj e = record { every_one = look.done h.passed hj; is = λ t. pass.done h.filled hj e }

  -- left at the first value that fails
  pub left : {start next : List ℤ} {j i : ℕ} → CellsTested columns f p rows j start next i → j < rows → i < columns → p (f i j) ≡ false
      → Filled (all_at columns rows (λ i j. p (f i j))) (grid columns rows f) false next
  left h hj hi e = record { every_one = look.broke (λ i j. p (f i j)) hj hi e; is = λ t. absurd (false≢true t) }

-- two lists that are filled one after the other, as one: where the first is left early, and where it is not
pub first_left : {a fits : Bool} {xs ys part lent : List ℤ} (b : Bool) → Filled a xs fits part → fits ≡ false → Filled (a && b) ys false lent
first_left {a} b h e = record { every_one = ap (λ (x : Bool). x && b) (sym e ∙ h.every_one); is = λ t. absurd (false≢true t) }

pub both_filled : {a b fits more : Bool} {xs ys first last lent whole : List ℤ} → Filled a xs fits first → fits ≡ true → Filled b ys more last
    → (first ≡ xs → last ≡ ys → lent ≡ whole) → Filled (a && b) whole more lent
both_filled {a} {b} h e k join = record { every_one = k.every_one ∙ ap (λ (x : Bool). x && b) (sym e ∙ h.every_one); is = λ t. join (h.is e) (k.is t) }

-- the same, told by an equal answer
pub filled_told : {a fits told : Bool} {xs lent : List ℤ} → Filled a xs fits lent → told ≡ fits → Filled a xs told lent
filled_told {a} {xs = xs} {lent} h e = subst (λ (b : Bool). Filled a xs b lent) (sym e) h
