-- A pass that fills a lent list with a field, in two nested loops over rows and columns: what each loop keeps, and one law for each need of such a pass.
use Rattle.std.specs.Prelude.{◌≡◌, refl, List, [], ◌∷◌, ◌++◌, ℕ, suc, ◌+◌, ◌*◌, ◌/◌, ◌%◌, ◌≤◌, ◌<◌, ℤ, length, get_or, set, drop}
use Rattle.std.proofs.Common.{sym, ap, ◌∙◌, subst, append_assoc, append-nil, zero-mul, suc-mul, add-zero, le_refl, le_antisymm, add-one, arith, length-set, length-append, length-drop, drop_of_length-le, drop-cons, drop-set-lt}
use Rattle.std.proofs.lemmas.List.{set_at}
use Rattle.std.proofs.Math.Arith.{digits_div, digits_mod, digits_lt}
use Rattle.rules.specs.Grid.{Field, tabulate, grid}
use Rattle.laws.specs.Grids.{tabulate_same, tabulate-add, length-tabulate, length-grid}

-- ---- one more at the end: of a row, and of a grid

tabulate_more : (n : ℕ) (f : ℕ → ℤ) → tabulate (n + 1) f ≡ tabulate n f ++ (f n ∷ [])
unfolding tabulate
tabulate_more n f = tabulate-add n 1 f ∙ ap (λ (k : ℕ). tabulate n f ++ (f k ∷ [])) (add-zero n)

row_end : (j columns : ℕ) → (j + 1) * columns ≡ j * columns + columns
row_end j columns = rw (add-one, suc-mul)

grid_more : (columns j : ℕ) (f : Field) → grid columns (j + 1) f ≡ grid columns j f ++ tabulate columns (λ i. f i j)
unfolding grid
grid_more columns j f =
    let flat : ℕ → ℤ = λ k. f (k % columns) (k / columns) in
    ap (λ (n : ℕ). tabulate n flat) (row_end j columns)
    ∙ tabulate-add (j * columns) columns flat
    ∙ ap (λ (r : List ℤ). grid columns j f ++ r)
    (tabulate_same columns (λ k. flat (j * columns + k)) (λ i. f i j)
    (λ i h. ap (λ (x : ℕ). f x ((j * columns + i) / columns)) (digits_mod j h) ∙ ap (λ (x : ℕ). f i x) (digits_div j h)))

-- ---- where the pass stands at column i of row j: the rows before j, what it has of row j, and the rest as it was

pub upto : ℕ → Field → List ℤ → ℕ → ℕ → List ℤ
upto columns f old j i = grid columns j f ++ tabulate i (λ k. f k j) ++ drop (j * columns + i) old

length_head : (columns : ℕ) (f : Field) (j i : ℕ) → length (grid columns j f ++ tabulate i (λ k. f k j)) ≡ j * columns + i
length_head columns f j i =
    omega (arith, length-append (grid columns j f) (tabulate i (λ k. f k j)), length-grid columns j f, length-tabulate i (λ k. f k j))

upto_start : (columns : ℕ) (f : Field) (old : List ℤ) → old ≡ upto columns f old 0 0
unfolding upto grid tabulate
upto_start columns f old = rw (zero-mul)

-- a store of the rule's value at the place takes it one cell on
upto_more : (columns : ℕ) (f : Field) (old : List ℤ) (j i : ℕ) {next : List ℤ} {v : ℤ} → next ≡ upto columns f old j i → v ≡ f i j
    → j * columns + i < length next → set next (j * columns + i) v ≡ upto columns f old j (i + 1)
unfolding upto
upto_more columns f old j i {next} {v} is rule h =
    let n : ℕ = j * columns + i in
    let row : ℕ → ℤ = λ k. f k j in
    let p : List ℤ = grid columns j f ++ tabulate i row in
    let q : List ℤ = drop (suc n) old in
    let e : suc n ≡ j * columns + (i + 1) = omega arith in
    let l : n < length old = omega (arith, ap length is, length-append p (drop n old), length_head columns f j i, length-drop n old) in
    rw (is, rule)
    (ap (λ (t : List ℤ). set (p ++ t) n (f i j)) (drop-cons old n (f i j) l)
    ∙ set_at p (get_or old n (f i j)) q (f i j) n (length_head columns f j i)
    ∙ sym (append_assoc p (f i j ∷ []) q)
    ∙ ap (λ (t : List ℤ). t ++ q) (append_assoc (grid columns j f) (tabulate i row) (f i j ∷ []))
    ∙ ap (λ (t : List ℤ). grid columns j f ++ t ++ q) (sym (tabulate_more i row))
    ∙ ap (λ (k : ℕ). grid columns j f ++ tabulate (i + 1) row ++ drop k old) e)

-- a whole row: the pass stands at the start of the next
upto_row : (columns : ℕ) (f : Field) (old : List ℤ) (j : ℕ) {i : ℕ} {next : List ℤ} → next ≡ upto columns f old j i → i ≤ columns → columns ≤ i
    → next ≡ upto columns f old (j + 1) 0
unfolding upto tabulate
upto_row columns f old j {i} is h k =
    let row : ℕ → ℤ = λ k. f k j in
    let e : j * columns + columns ≡ (j + 1) * columns + 0 = omega (arith, row_end j columns) in
    is
    ∙ ap (λ (x : ℕ). grid columns j f ++ tabulate x row ++ drop (j * columns + x) old) (le_antisymm h k)
    ∙ ap (λ (x : ℕ). grid columns j f ++ tabulate columns row ++ drop x old) e
    ∙ ap (λ (t : List ℤ). t ++ drop ((j + 1) * columns + 0) old) (sym (grid_more columns j f) ∙ sym (append-nil (grid columns (j + 1) f)))

-- all rows
upto_end : (columns : ℕ) (f : Field) (old : List ℤ) {j rows : ℕ} {next : List ℤ} → next ≡ upto columns f old j 0 → j ≤ rows → rows ≤ j
    → next ≡ grid columns rows f ++ drop (rows * columns) old
unfolding upto tabulate
upto_end columns f old {j} {rows} is h k =
    is
    ∙ ap (λ (x : ℕ). grid columns x f ++ [] ++ drop (x * columns + 0) old) (le_antisymm h k)
    ∙ ap (λ (t : List ℤ). t ++ drop (rows * columns + 0) old) (append-nil (grid columns rows f))
    ∙ ap (λ (x : ℕ). grid columns rows f ++ drop x old) (add-zero (rows * columns))

-- ---- the loops

-- the outer loop: `next` is `old` with the rows below j filled
pub record Rows (columns : ℕ) (f : Field) (rows : ℕ) (old next : List ℤ) (j : ℕ) : Type 0 where
  pub most : j ≤ rows
  pub room : rows * columns ≤ length next
  pub same : length next ≡ length old
  pub rest : drop (rows * columns) next ≡ drop (rows * columns) old
  pub is : next ≡ upto columns f old j 0

-- the inner loop: `next` is `start` with the cells below i of row j filled, whatever list the rows were filled in
pub record Cells (columns : ℕ) (f : Field) (rows j : ℕ) (start next : List ℤ) (i : ℕ) : Type 0 where
  pub most : i ≤ columns
  pub room : rows * columns ≤ length next
  pub same : length next ≡ length start
  pub rest : drop (rows * columns) next ≡ drop (rows * columns) start
  pub is : (old : List ℤ) → start ≡ upto columns f old j 0 → next ≡ upto columns f old j i

module _ {columns rows : ℕ} {f : Field} where
  pub begin : {old : List ℤ} → rows * columns ≤ length old → Rows columns f rows old old 0
  begin {old} h = record { most = omega arith; room = h; same = refl; rest = refl; is = upto_start columns f old }

  pub begin_row : {old start : List ℤ} {j : ℕ} → Rows columns f rows old start j → Cells columns f rows j start start 0
  begin_row h = record { most = omega arith; room = h.room; same = refl; rest = refl; is = λ old e. e }

  module _ {j : ℕ} {start next : List ℤ} where
    -- the place that the pass stands at
    pub place : {i : ℕ} → Cells columns f rows j start next i → j < rows → i < columns → j * columns + i < length next
    place h hj hi = omega (arith, digits_lt hj hi)

    -- a store of the rule's value there
    pub more : {i : ℕ} {v : ℤ} {after : List ℤ} → Cells columns f rows j start next i → j < rows → i < columns
        → after ≡ set next (j * columns + i) v → v ≡ f i j → Cells columns f rows j start after (i + 1)
    more {i} {v} {after} h hj hi s e =
        let l : length after ≡ length next = ap length s ∙ length-set next (j * columns + i) v in
        record {
          most = omega arith;
          room = omega arith;
          same = l ∙ h.same;
          rest = ap (drop (rows * columns)) s ∙ drop-set-lt (rows * columns) next (j * columns + i) v (digits_lt hj hi) ∙ h.rest;
          is = λ old b. s ∙ upto_more columns f old j i (h.is old b) e (place h hj hi);
        }

    pub more_rows : {old : List ℤ} {i : ℕ} → Rows columns f rows old start j → Cells columns f rows j start next i → j < rows → columns ≤ i
        → Rows columns f rows old next (j + 1)
    more_rows {old} g h hj hi =
        record {
          most = omega arith;
          room = h.room;
          same = h.same ∙ g.same;
          rest = h.rest ∙ g.rest;
          is = upto_row columns f old j (h.is old g.is) h.most hi;
        }

  -- at the end: of a list as long as the grid, and of a longer one, whose rest is as it was
  pub done_front : {old next : List ℤ} {j : ℕ} → Rows columns f rows old next j → rows ≤ j → next ≡ grid columns rows f ++ drop (rows * columns) old
  done_front {old} h hj = upto_end columns f old h.is h.most hj

  pub done : {old next : List ℤ} {j : ℕ} → Rows columns f rows old next j → rows ≤ j → length old ≡ rows * columns → next ≡ grid columns rows f
  done {old} h hj e =
      done_front h hj
      ∙ ap (λ (t : List ℤ). grid columns rows f ++ t) (drop_of_length-le old (subst (λ (n : ℕ). n ≤ rows * columns) (sym e) (le_refl (rows * columns))))
      ∙ append-nil (grid columns rows f)
