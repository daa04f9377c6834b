-- What a still row gives: the velocity of each of its faces is 0, those of a cell near and far; and what the marks say of the rows.
use Prim.Native.Nat.{ℕ, suc, ◌+◌, ◌-◌, ◌/◌, ◌≤◌, ◌<◌}
use native.Mathlib.Nat.{eq-or-lt_of_le}
use mathlib.Core.Path.{◌≡◌, ◌∙◌, refl, sym}
use mathlib.Core.Logic.{⊎_elim}
use mathlib.Core.Bool.{Bool, true, false, cond, ◌&&◌}
use mathlib.Core.List.{List}
use native.Mathlib.Omega.{arith}
use lib.Dec.{T}
use lib.IntN.{ℤ, pos}
use lib.ListN.{length, get_or, set, length-set}
use lib.Seq.{get_or-set_same}
use borrow.Author.Rules.{read_below}
use Rattle.rules.specs.declared.Card.{Card}
use Rattle.rules.specs.Site.{Water, read_state, is_zero}
use Rattle.laws.specs.Tests.{Three, three_of, true_of, and_left, and_right, to_T}
use Rattle.laws.specs.Grids.{all_at_lem, all_broken}
use Rattle.laws.specs.Numbers.{zero_is}
use Rattle.laws.specs.Facts.{Ranges}
use Rattle.laws.specs.Lines.{is_end, no_end}
use Rattle.layout.specs.declared.ways.Way.{Way}
use Rattle.layout.specs.declared.ways.Way.TheVariants.{East, North}
use Rattle.layout.specs.Ways.{wide, high, back, forth, speeds, across}
use Rattle.layout.proofs.Pointing.{Cell, near_in, far_in}
use Rattle.still.specs.Rows.{row_still, cells_still, CellsStill, BothStill}
use Rattle.still.specs.Marks.{Marked, both_marked}

module _ (c : Card) (w : Water) (way : Way) (i j : ℕ) (h : i < wide c way) where
  -- a face of a still row
  pub row_at : row_still c w way j ≡ true → speeds w way i j ≡ pos 0
  unfolding row_still
  row_at e = zero_is _ (all_at_lem (wide c way) (λ k. is_zero (speeds w way k j)) (to_T e) i h)

  -- one face that moves decides for its row
  pub row_moves : is_zero (speeds w way i j) ≡ false → false ≡ row_still c w way j
  unfolding row_still
  row_moves e = sym (all_broken (wide c way) (λ k. is_zero (speeds w way k j)) i h (rw e tt))

module _ {c : Card} {w : Water} {j : ℕ} (r : CellsStill c w j) where
  rows : Three (row_still c w East j) (row_still c w North j) (row_still c w North (suc j))
  unfolding cells_still
  rows = three_of _ _ _ (to_T r.cells)

  -- the near faces of the cells, which stand in the cells' own row, and the far ones
  pub near_row : (way : Way) → row_still c w way j ≡ true
  near_row East = true_of _ rows.one
  near_row North = true_of _ rows.two

  far_row : (way : Way) → row_still c w way (forth (across way) j) ≡ true
  unfolding forth
  far_row East = true_of _ rows.one
  far_row North = true_of _ rows.three

  -- those of one cell
  module _ {i : ℕ} (k : Cell c i j) where
    pub near_still : (way : Way) → speeds w way i j ≡ pos 0
    near_still way = row_at c w way i j (near_in way k).column (near_row way)

    pub far_still : (way : Way) → speeds w way (forth way i) (forth (across way) j) ≡ pos 0
    far_still way = row_at c w way (forth way i) (forth (across way) j) (far_in way k).column (far_row way)

-- ---- rows of faces

-- no row of faces is empty, so that it has a middle
pub middle_in : (c : Card) (way : Way) → Ranges c → wide c way / 2 < wide c way
unfolding wide
middle_in c East r = omega arith
middle_in c North r = omega arith

-- a northward row that is no wall parts two rows of cells
pub northward : (c : Card) (way : Way) {j : ℕ} → way ≡ North → is_end c.rows j ≡ false → j < high c way → (0 < j) × (j < c.rows)
unfolding high
northward c East e n h = cc
northward c North {j} e n h = let k = no_end c.rows j n in let other = k.other in (k.low, omega arith)

-- where both are marked, both are still
module _ {c : Card} {s : List ℤ} {m : List Bool} (k : Marked c s m) where
  marked : (i : ℕ) → i < c.rows → T (get_or m i false) → CellsStill c (read_state c s) i
  marked i h t = record { cells = sym (k.is i h) ∙ true_of (get_or m i false) t }

  pub both_rows : (way : Way) {j : ℕ} → j < high c way → both_marked c way m j ≡ true → BothStill c (read_state c s) way j
  unfolding both_marked high back
  both_rows East {j} h e = let r = marked j h (to_T e) in record { row_k = r; row_l = r }
  both_rows North {j} h e = parted (is_end c.rows j) refl (to_T e)
    where
      parted : (t : Bool) → is_end c.rows j ≡ t → T (cond t false (get_or m (j - 1) false && get_or m j false)) → BothStill c (read_state c s) North j
      parted true n t = absurd t
      parted false n t =
          let inside = northward c North refl n h in
          record {
            row_k = marked (j - 1) (omega (arith, inside)) (and_left (get_or m (j - 1) false) (get_or m j false) t);
            row_l = marked j inside.1 (and_right (get_or m (j - 1) false) (get_or m j false) t);
          }

-- ---- a loop that marks one row after another

-- the rows below j are marked
pub record MarkedTo (c : Card) (s : List ℤ) (old marks : List Bool) (j : ℕ) : Type 0 where
  pub most : j ≤ c.rows
  pub same : length marks ≡ length old
  pub is : (k : ℕ) → k < j → get_or marks k false ≡ cells_still c (read_state c s) k

module _ {c : Card} {s : List ℤ} {old : List Bool} where
  pub none_marked : MarkedTo c s old old 0
  none_marked = record { most = omega arith; same = refl; is = λ k h. absurd (omega (arith, h)) }

  pub one_more : {marks : List Bool} {j : ℕ} {v : Bool} → MarkedTo c s old marks j → j < c.rows → j < length marks
      → v ≡ cells_still c (read_state c s) j → MarkedTo c s old (set marks j v) (j + 1)
  one_more {marks} {j} {v} g h l e =
      record {
        most = omega arith;
        same = length-set marks j v ∙ g.same;
        is = λ k b. ⊎_elim
            (λ (q : k ≡ j). rw q (get_or-set_same marks j v false l ∙ e))
            (λ (q : k < j). read_below Bool marks j k v false _ q (g.is k q))
            (eq-or-lt_of_le (omega (arith, b)));
      }

  pub all_marked : {marks : List Bool} {j : ℕ} → MarkedTo c s old marks j → c.rows ≤ j → c.rows ≤ length old → Marked c s marks
  all_marked g h r = record { room = omega (arith, g.same, r); is = λ k b. g.is k (omega arith) }
