-- Numbers on a rectangle of places: column first, then row. Columns run west to east, rows south to north.
use Rattle.std.specs.Prelude.{ℕ, zero, suc, ◌*◌, ◌/◌, ◌%◌, Bool, true, cond, ◌&&◌, List, [], ◌∷◌, ℤ, pos, ◌+ℤ◌}
use Rattle.std.specs.Int.Signed.{le_z}

-- a number at each column and row
abbrev pub Field : Type 0
Field = ℕ → ℕ → ℤ

-- f 0, f 1 .. up to, not including, f n
unfoldable pub tabulate : ℕ → (ℕ → ℤ) → List ℤ
tabulate zero f = []
tabulate (suc n) f = f zero ∷ tabulate n (λ k. f (suc k))

-- a field as a flat list, row by row
unfoldable pub grid : (columns rows : ℕ) → Field → List ℤ
grid columns rows f = tabulate (rows * columns) (λ k. f (k % columns) (k / columns))

-- a test at every number below n
unfoldable pub all : ℕ → (ℕ → Bool) → Bool
all zero p = true
all (suc n) p = all n p && p n

-- a test at every place of a rectangle
unfoldable pub all_at : (columns rows : ℕ) → (ℕ → ℕ → Bool) → Bool
all_at columns rows p = all rows (λ j. all columns (λ i. p i j))

-- the greater of two numbers, and the lesser
abbrev pub max_z : ℤ → ℤ → ℤ
max_z a b = cond (le_z a b) b a

abbrev pub min_z : ℤ → ℤ → ℤ
min_z a b = cond (le_z a b) a b

-- the greatest of 0, f 0 .. f (n - 1)
unfoldable pub greatest : ℕ → (ℕ → ℤ) → ℤ
greatest zero f = pos 0
greatest (suc n) f = max_z (greatest n f) (f n)

-- f 0, f 1 .. up to, not including, f n, added up
unfoldable pub sum : ℕ → (ℕ → ℤ) → ℤ
sum zero f = pos 0
sum (suc n) f = sum n f +ℤ f n

-- a field added up, over every place of a rectangle
unfoldable pub sum_at : (columns rows : ℕ) → Field → ℤ
sum_at columns rows f = sum rows (λ j. sum columns (λ i. f i j))
