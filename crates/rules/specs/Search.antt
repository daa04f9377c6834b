-- Document 01, "Finding chambers": the window, the chamber's cell, and the list of places.
use Rattle.std.specs.Prelude.{ℕ, zero, suc, ◌*◌, ◌-◌, ◌/◌, min, Bool, true, false, cond, ◌&&◌, List, [], ◌∷◌, ◌++◌, map, length, get_or, ℤ, pos, nat_abs, leb, eqb, Float}
use Rattle.std.specs.Int.Signed.{le_z}
use Rattle.std.specs.Float.{nan, inf, fin, binary64}
use Rattle.std.specs.Float.Ieee.{le, of_int}
use Rattle.rules.specs.declared.Card.{Card}
use Rattle.rules.specs.declared.Window.{Window}
use Rattle.rules.specs.declared.Chamber.{Chamber}
use Rattle.rules.specs.Grid.{all}
use Rattle.rules.specs.Site.{read_state, height_fits}

-- ---- The window: four floats, not rounded

-- neither a NaN nor an infinity
abbrev pub is_finite : Float → Bool
is_finite nan = false
is_finite (inf s) = false
is_finite (fin s m e) = true

unfoldable pub edges_finite : Window → Bool
edges_finite w = is_finite w.west && is_finite w.south && is_finite w.east && is_finite w.north

-- a whole number turned into a 64-bit float, which up to 2 ^ 53 loses nothing
abbrev pub as_float : ℤ → Float
as_float z = of_int binary64 z

-- low ≤ v ≤ high
abbrev pub in_order : (low v high : Float) → Bool
in_order low v high = le low v && le v high

-- west ≤ x ≤ east and south ≤ y ≤ north
unfoldable pub inside : Window → (x y : ℤ) → Bool
inside w x y = in_order w.west (as_float x) w.east && in_order w.south (as_float y) w.north

-- ---- One chamber

-- its column, or its row: min(floor(x / side), count − 1), so that the last cell has its far end too
abbrev pub cell_along : (side count : ℕ) (x : ℤ) → ℕ
cell_along side count x = min (nat_abs x / side) (count - 1)

-- listed when inside and its cell's kept height is at least the depth asked
unfoldable pub listed : Card → (state : List ℤ) → Window → (depth x y : ℤ) → Bool
listed c s w depth x y =
    inside w x y && le_z depth ((read_state c s).height (cell_along c.dx c.columns x) (cell_along c.dy c.rows y))

-- ---- The register, as two lists of numbers

abbrev pub listed_at : Card → (state : List ℤ) → Window → (depth : ℤ) (xs ys : List ℤ) → ℕ → Bool
listed_at c s w depth xs ys k = listed c s w depth (get_or xs k (pos 0)) (get_or ys k (pos 0))

-- the places below n that pass a test, from 0, rising, each once
unfoldable pub places : ℕ → (ℕ → Bool) → List ℕ
places zero p = []
places (suc n) p = places n p ++ cond (p n) (n ∷ []) []

unfoldable pub list_of : Card → (state : List ℤ) → Window → (depth : ℤ) (xs ys : List ℤ) → List ℕ
list_of c s w depth xs ys = places (length xs) (listed_at c s w depth xs ys)

-- refusal 2: lists of unequal length, or over 1,000 chambers
unfoldable pub register_fits : (xs ys : List ℤ) → Bool
register_fits xs ys = eqb (length xs) (length ys) && leb (length xs) 1000

-- along one axis a chamber lies from 0 to the far end, both included
abbrev pub along_fits : (far : ℕ) → ℤ → Bool
along_fits far x = le_z (pos 0) x && le_z x (pos far)

abbrev pub all_along : (far : ℕ) → List ℤ → Bool
all_along far xs = all (length xs) (λ k. along_fits far (get_or xs k (pos 0)))

-- refusal 3: a chamber outside the site, a depth out of range, or a window edge not finite
unfoldable pub asked_fits : Card → (xs ys : List ℤ) → Window → (depth : ℤ) → Bool
asked_fits c xs ys w depth =
    all_along (c.columns * c.dx) xs && all_along (c.rows * c.dy) ys && height_fits depth && edges_finite w

-- ---- The register, as a row of chamber records

abbrev pub xs_of : List Chamber → List ℤ
xs_of row = map (λ (c : Chamber). c.x) row

abbrev pub ys_of : List Chamber → List ℤ
ys_of row = map (λ (c : Chamber). c.y) row
