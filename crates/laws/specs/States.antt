-- A state that is written, read; two that are written alike; the greatest height, met at other places.
use Prim.Native.Nat.{ℕ, suc, ◌+◌, ◌*◌, ◌/◌, ◌%◌, ◌≤◌, ◌<◌, suc-le-suc}
use Rattle.std.specs.Prelude.{◌≡◌, List, ◌++◌, ℤ, pos, length, get_or}
use Rattle.std.proofs.Common.{sym, ap, ap₂, ◌∙◌, mod-lt, div-lt_iff_lt-mul, div-add-mod', arith, length-append, get_or-append-add}
use Rattle.std.proofs.Math.ListN.{get_or-append}
use Rattle.std.proofs.Math.Arith.{digits_lt}
use Rattle.rules.specs.Grid.{Field, tabulate, grid}
use Rattle.laws.specs.Grids.{tabulate-add, tabulate_read, grid-flat, length-grid, get_d_grid, grid_same, greatest_same, pos_columns}
use Rattle.rules.specs.declared.Card.{Card}
use Rattle.rules.specs.Site.{Water, cells, read_ground, read_state, write_state, state_length}
use Rattle.rules.specs.Run.{peak}

-- get_or behind a front whose length is known
get_d_behind : (xs ys : List ℤ) (n k : ℕ) (d : ℤ) → length xs ≡ n → get_or (xs ++ ys) (n + k) d ≡ get_or ys k d
get_d_behind xs ys n k d e = rw (← e) (get_or-append-add xs ys k d)

get_d_front : (xs ys : List ℤ) (n k : ℕ) (d : ℤ) → length xs ≡ n → k < n → get_or (xs ++ ys) k d ≡ get_or xs k d
get_d_front xs ys n k d e h = get_or-append xs ys d k (rw e h)

module _ (c : Card) (w : Water) where
  abbrev hs : List ℤ
  hs = grid c.columns c.rows w.height

  abbrev es : List ℤ
  es = grid (suc c.columns) c.rows w.east

  abbrev ns : List ℤ
  ns = grid c.columns (suc c.rows) w.north

  pub height_back : (i j : ℕ) → i < c.columns → j < c.rows → (read_state c (write_state c w)).height i j ≡ w.height i j
  unfolding read_state write_state
  height_back i j hi hj =
      get_d_front hs (es ++ ns) (c.rows * c.columns) (j * c.columns + i) (pos 0) (length-grid c.columns c.rows w.height) (digits_lt hj hi)
      ∙ get_d_grid c.columns c.rows w.height i j (pos 0) hi hj

  pub east_back : (i j : ℕ) → i ≤ c.columns → j < c.rows → (read_state c (write_state c w)).east i j ≡ w.east i j
  unfolding read_state write_state
  east_back i j hi hj =
      get_d_behind hs (es ++ ns) (c.rows * c.columns) (j * suc c.columns + i) (pos 0) (length-grid c.columns c.rows w.height)
      ∙ get_d_front es ns (c.rows * suc c.columns) (j * suc c.columns + i) (pos 0) (length-grid (suc c.columns) c.rows w.east) (digits_lt hj (suc-le-suc hi))
      ∙ get_d_grid (suc c.columns) c.rows w.east i j (pos 0) (suc-le-suc hi) hj

  pub north_back : (i j : ℕ) → i < c.columns → j ≤ c.rows → (read_state c (write_state c w)).north i j ≡ w.north i j
  unfolding read_state write_state
  north_back i j hi hj =
      get_d_behind hs (es ++ ns) (c.rows * c.columns) (c.rows * suc c.columns + (j * c.columns + i)) (pos 0) (length-grid c.columns c.rows w.height)
      ∙ get_d_behind es ns (c.rows * suc c.columns) (j * c.columns + i) (pos 0) (length-grid (suc c.columns) c.rows w.east)
      ∙ get_d_grid c.columns (suc c.rows) w.north i j (pos 0) hi (suc-le-suc hj)

  -- behind the heights
  pub faces_back : (m : ℕ) → get_or (write_state c w) (cells c + m) (pos 0) ≡ get_or (es ++ ns) m (pos 0)
  unfolding write_state
  faces_back m = get_d_behind hs (es ++ ns) (cells c) m (pos 0) (length-grid c.columns c.rows w.height)

  pub length_state : length (write_state c w) ≡ state_length c
  unfolding write_state state_length
  length_state = simp (length-append, length-grid)

pub ground_back_lem : (c : Card) (f : Field) (i j : ℕ) → i < c.columns → j < c.rows → read_ground c (grid c.columns c.rows f) i j ≡ f i j
unfolding read_ground
ground_back_lem c f i j hi hj = get_d_grid c.columns c.rows f i j (pos 0) hi hj

-- two waters that agree on the grid are written alike
pub record Alike (c : Card) (w v : Water) : Type 0 where
  pub height : (i j : ℕ) → i < c.columns → j < c.rows → w.height i j ≡ v.height i j
  pub east : (i j : ℕ) → i ≤ c.columns → j < c.rows → w.east i j ≡ v.east i j
  pub north : (i j : ℕ) → i < c.columns → j ≤ c.rows → w.north i j ≡ v.north i j

pub write_same : (c : Card) (w v : Water) → Alike c w v → write_state c w ≡ write_state c v
unfolding write_state
write_same c w v a =
    ap₂ ◌++◌ (grid_same c.columns c.rows w.height v.height a.height)
    (ap₂ ◌++◌ (grid_same (suc c.columns) c.rows w.east v.east (λ i j hi hj. a.east i j (omega arith) hj))
    (grid_same c.columns (suc c.rows) w.north v.north (λ i j hi hj. a.north i j hi (omega arith))))

-- each height of the one state stands somewhere in the other, both ways
abbrev pub Found : (c c' : Card) (s s' : List ℤ) → Type 0
Found c c' s s' =
    (i j : ℕ) → i < c.columns → j < c.rows
    → (a : ℕ) × (b : ℕ) × (a < c'.columns) × (b < c'.rows) × ((read_state c s).height i j ≡ (read_state c' s').height a b)

flat : (c c' : Card) (s s' : List ℤ) → Found c c' s s' → (k : ℕ) → k < c.rows * c.columns
    → (l : ℕ) × (l < c'.rows * c'.columns) × (get_or s k (pos 0) ≡ get_or s' l (pos 0))
unfolding read_state
flat c c' s s' f k h =
    let p : 0 < c.columns = pos_columns c.columns c.rows k h in
    let q = f (k % c.columns) (k / c.columns) (mod-lt k p) ((div-lt_iff_lt-mul p).1 h) in
    (q.1 * c'.columns + q.0, digits_lt q.3 q.2, rw (div-add-mod' k c.columns) at q.4)

pub peak_same : (c c' : Card) (s s' : List ℤ) → Found c c' s s' → Found c' c s' s → peak c s ≡ peak c' s'
unfolding peak
peak_same c c' s s' to from =
    greatest_same (c.rows * c.columns) (c'.rows * c'.columns) (λ k. get_or s k (pos 0)) (λ k. get_or s' k (pos 0)) (flat c c' s s' to) (flat c' c s' s from)

-- a list of the right length, read and written, is itself
pub write_read : (c : Card) (s : List ℤ) → length s ≡ state_length c → write_state c (read_state c s) ≡ s
unfolding write_state read_state state_length
write_read c s e =
    let f : ℕ → ℤ = λ k. get_or s k (pos 0) in
    let a = c.rows * c.columns in
    let b = c.rows * suc c.columns in
    let d = suc c.rows * c.columns in
    ap₂ ◌++◌ (grid-flat c.columns c.rows f)
    (ap₂ ◌++◌ (grid-flat (suc c.columns) c.rows (λ k. f (a + k))) (grid-flat c.columns (suc c.rows) (λ k. f (a + (b + k))))
    ∙ sym (tabulate-add b d (λ k. f (a + k))))
    ∙ sym (tabulate-add a (b + d) f)
    ∙ ap (λ (n : ℕ). tabulate n f) (sym e)
    ∙ tabulate_read s (pos 0)

pub grid_read : (c : Card) (g : List ℤ) → length g ≡ c.rows * c.columns → grid c.columns c.rows (read_ground c g) ≡ g
unfolding read_ground
grid_read c g e = grid-flat c.columns c.rows (λ k. get_or g k (pos 0)) ∙ ap (λ (n : ℕ). tabulate n (λ k. get_or g k (pos 0))) (sym e) ∙ tabulate_read g (pos 0)
