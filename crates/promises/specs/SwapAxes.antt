-- Axes swapped: one step of the turned site is the step turned, and the turn taken twice gives the site back.
use Rattle.std.specs.Prelude.{ℕ, ◌+◌, ◌*◌, ◌/◌, ◌%◌, ◌<◌, ◌≡◌, refl, List, ℤ, pos, get_or}
use Rattle.std.proofs.Math.Path.{sym}
use Rattle.std.proofs.Common.{ap, ◌∙◌}
use Rattle.std.proofs.Math.Bool.{and_comm}
use Rattle.std.proofs.Math.Arith.{digits_lt}
use Rattle.rules.specs.declared.Card.{Card}
use Rattle.rules.specs.Grid.{Field}
use Rattle.rules.specs.Site.{cells, within, sizes_fit, sides_fit, times_fit, card_fits, read_ground, read_state, check}
use Rattle.rules.specs.Step.{new_velocity, next, step_number_by, step_number, next_state_by, next_state}
use Rattle.rules.specs.Run.{peak}
use Rattle.rules.specs.Turn.{swap_axes, swap_card}
use Rattle.laws.specs.Grids.{length-grid, grid_same}
use Rattle.laws.specs.States.{height_back, east_back, north_back, ground_back_lem, write_same, peak_same, write_read, grid_read, length_state}
use Rattle.laws.specs.Facts.{check_sound, sound_check}
use Rattle.laws.specs.Keeps.{written_fits}
use Rattle.promises.specs.Swap as S
use Rattle.promises.specs.Swap.{Swapped, SwappedField}
use Rattle.promises.specs.SwapNumbers.{numbers, values_same}
use Rattle.laws.specs.Stored.{SameFaces, east_same, north_same, faces_written}
use Rattle.promises.specs.Turning.{Lawful}
use Rattle.promises.specs.Cells.{at, read_back, told_apart, comes_from}
use Rattle.promises.specs.TakenTwice.{GivesBack}

module _ (c : Card) (g s : List ℤ) where
  ground_swapped : SwappedField c.columns c.rows (read_ground c g) (read_ground (swap_card c) (swap_axes.land c g))
  ground_swapped = record { same = λ i j hi hj. ground_back_lem (swap_card c) (λ i j. read_ground c g j i) i j hi hj }

  state_swapped : Swapped c (read_state c s) (read_state (swap_card c) (swap_axes.state c s))
  state_swapped = record {
    height = λ i j hi hj. height_back (swap_card c) _ i j hi hj;
    east = λ i j hi hj. east_back (swap_card c) _ i j hi hj;
    north = λ i j hi hj. north_back (swap_card c) _ i j hi hj;
  }

  next_swapped : next_state (swap_card c) (swap_axes.land c g) (swap_axes.state c s) ≡ swap_axes.state c (next_state c g s)
  unfolding next_state_by
  next_swapped =
      let n = next new_velocity c (read_ground c g) (read_state c s) in
      let m = S.next_swapped c (read_state c s) (read_state (swap_card c) (swap_axes.state c s)) state_swapped (read_ground c g) (read_ground (swap_card c) (swap_axes.land c g)) ground_swapped new_velocity in
      write_same (swap_card c) _ _ (record {
        height = λ i j hi hj. m.height i j hi hj ∙ sym (height_back c n j i hj hi);
        east = λ i j hi hj. m.east i j hi hj ∙ sym (north_back c n j i hj hi);
        north = λ i j hi hj. m.north i j hi hj ∙ sym (east_back c n j i hj hi);
      })

  peak_swapped : peak (swap_card c) (swap_axes.state c s) ≡ peak c s
  peak_swapped =
      peak_same (swap_card c) c (swap_axes.state c s) s
      (λ i j hi hj. (j, i, hj, hi, state_swapped.height i j hi hj))
      (λ i j hi hj. (j, i, hj, hi, sym (state_swapped.height j i hj hi)))

  number_swapped : step_number (swap_card c) (swap_axes.land c g) (swap_axes.state c s) ≡ step_number c g s
  unfolding step_number_by
  number_swapped = numbers c (read_state c s) (read_state (swap_card c) (swap_axes.state c s)) state_swapped (read_ground c g) (read_ground (swap_card c) (swap_axes.land c g)) ground_swapped new_velocity

  card_swapped : card_fits (swap_card c) ≡ card_fits c
  unfolding card_fits sizes_fit sides_fit times_fit
  card_swapped =
      rw (
        and_comm (within 1 128 c.rows) (within 1 128 c.columns),
        and_comm (within 100000 20000000 c.dy) (within 100000 20000000 c.dx),
      )

  check_swapped : check c g s ≡ 0 → check (swap_card c) (swap_axes.land c g) (swap_axes.state c s) ≡ 0
  check_swapped e =
      let p = check_sound c g s e in
      sound_check (swap_card c) (swap_axes.land c g) (swap_axes.state c s) (record {
        card = card_swapped ∙ p.card;
        lengths = written_fits (swap_card c) _ _ (length-grid c.rows c.columns _);
        values = values_same c (read_state c s) (read_state (swap_card c) (swap_axes.state c s)) state_swapped (read_ground c g) (read_ground (swap_card c) (swap_axes.land c g)) ground_swapped ∙ p.values;
      })

-- ---- the cells: column and row change places

cell_place_lem : (c : Card) (k : ℕ) → k < cells c → swap_axes.cell c k < cells (swap_card c)
cell_place_lem c k h = let a = at c k h in digits_lt a.column a.row

cell_twice : (c : Card) (k : ℕ) → k < cells c → swap_axes.cell (swap_card c) (swap_axes.cell c k) ≡ k
cell_twice c k h =
    let a = at c k h in
    read_back (λ (x y : ℕ). x * c.columns + y) c.rows (k / c.columns) (k % c.columns) a.row ∙ a.is

cell_height : (c : Card) (s : List ℤ) (k : ℕ) → k < cells c → get_or (swap_axes.state c s) (swap_axes.cell c k) (pos 0) ≡ get_or s k (pos 0)
unfolding read_state
cell_height c s k h =
    let a = at c k h in
    (state_swapped c s s).height (k / c.columns) (k % c.columns) a.row a.column ∙ ap (λ (x : ℕ). get_or s x (pos 0)) a.is

cell_faces : (c : Card) (s v : List ℤ) → SameFaces c s v → SameFaces (swap_card c) (swap_axes.state c s) (swap_axes.state c v)
cell_faces c s v e = faces_written (swap_card c) _ _ (ap (λ (f : Field). λ i j. f j i) (north_same e)) (ap (λ (f : Field). λ i j. f j i) (east_same e))

pub lawful : Lawful swap_axes
lawful = record {
  steps = λ c. refl;
  checks = check_swapped;
  numbers = number_swapped;
  states = next_swapped;
  peaks = λ c s. peak_swapped c s s;
  places = cell_place_lem;
  apart = told_apart swap_axes (λ c. refl) cell_place_lem cell_twice;
  from = comes_from swap_axes (λ c. refl) cell_place_lem cell_twice;
  long = λ c s. length_state (swap_card c) _;
  heights = cell_height;
  faces = cell_faces;
}

pub gives_back : GivesBack swap_axes
gives_back = record {
  card = λ c. refl;
  cell = cell_twice;
  land = λ c g e.
      grid_same c.columns c.rows _ (read_ground c g) (λ i j hi hj. (ground_swapped c g g).same j i hj hi)
      ∙ grid_read c g e;
  state = λ c s e.
      let 𝓢 = state_swapped c s s in
      write_same c _ (read_state c s) (record {
        height = λ i j hi hj. 𝓢.height j i hj hi;
        east = λ i j hi hj. 𝓢.north j i hj hi;
        north = λ i j hi hj. 𝓢.east j i hj hi;
      })
      ∙ write_read c s e;
}
