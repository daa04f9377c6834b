-- East for west: one step of the turned site is the step turned, and the turn taken twice gives the site back.
use Rattle.std.specs.Prelude.{ℕ, ◌+◌, ◌-◌, ◌*◌, ◌/◌, ◌%◌, ◌<◌, ◌≡◌, refl, List, ℤ, pos, get_or}
use Rattle.std.proofs.Math.Path.{sym, ap}
use Rattle.std.proofs.Common.{◌∙◌, arith}
use Rattle.std.proofs.Math.IntN.{neg_ℤ, neg_ℤ-neg_ℤ}
use Rattle.std.proofs.Math.Arith.{digits_lt}
use Rattle.rules.specs.declared.Card.{Card}
use Rattle.rules.specs.Grid.{Field}
use Rattle.rules.specs.Site.{cells, read_ground, read_state, check}
use Rattle.rules.specs.Step.{new_velocity, next, step_number_by, step_number, next_state_by, next_state}
use Rattle.rules.specs.Run.{peak}
use Rattle.rules.specs.Turn.{east_west}
use Rattle.rules.proofs.Fair.{fair}
use Rattle.laws.specs.Grids.{length-grid, grid_same}
use Rattle.laws.specs.States.{height_back, east_back, north_back, ground_back_lem, write_same, peak_same, write_read, grid_read, length_state}
use Rattle.laws.specs.Facts.{check_sound, sound_check}
use Rattle.laws.specs.Keeps.{written_fits}
use Rattle.promises.specs.Mirror.{Mirror, MirrorField, next_mirror}
use Rattle.promises.specs.MirrorNumbers.{numbers, values_same}
use Rattle.laws.specs.Stored.{SameFaces, east_same, north_same, faces_written}
use Rattle.promises.specs.Turning.{Lawful}
use Rattle.promises.specs.Cells.{at, read_back, told_apart, comes_from}
use Rattle.promises.specs.TakenTwice.{GivesBack}

module _ (c : Card) (g s : List ℤ) where
  ground_mirrored : MirrorField c.columns c.rows (read_ground c g) (read_ground c (east_west.land c g))
  ground_mirrored = record {
    same = λ i i' j e h.
        ground_back_lem c (λ i j. read_ground c g (c.columns - 1 - i) j) i j (omega arith) h
        ∙ ap (λ (x : ℕ). read_ground c g x j) (omega arith);
  }

  state_mirrored : Mirror c (read_state c s) (read_state c (east_west.state c s))
  state_mirrored = record {
    height = λ i i' j e h. height_back c _ i j (omega arith) h ∙ ap (λ (x : ℕ). (read_state c s).height x j) (omega arith);
    east = λ i i' j e h. east_back c _ i j (omega arith) h ∙ ap (λ (x : ℕ). neg_ℤ ((read_state c s).east x j)) (omega arith);
    north = λ i i' j e h. north_back c _ i j (omega arith) h ∙ ap (λ (x : ℕ). (read_state c s).north x j) (omega arith);
  }

  next_mirrored : next_state c (east_west.land c g) (east_west.state c s) ≡ east_west.state c (next_state c g s)
  unfolding next_state_by
  next_mirrored =
      let n = next new_velocity c (read_ground c g) (read_state c s) in
      let m = next_mirror c (read_state c s) (read_state c (east_west.state c s)) state_mirrored (read_ground c g) (read_ground c (east_west.land c g)) ground_mirrored new_velocity fair in
      write_same c _ _ (record {
        height = λ i j hi hj. m.height i (c.columns - 1 - i) j (omega arith) hj ∙ sym (height_back c n (c.columns - 1 - i) j (omega arith) hj);
        east = λ i j hi hj. m.east i (c.columns - i) j (omega arith) hj ∙ ap neg_ℤ (sym (east_back c n (c.columns - i) j (omega arith) hj));
        north = λ i j hi hj. m.north i (c.columns - 1 - i) j (omega arith) hj ∙ sym (north_back c n (c.columns - 1 - i) j (omega arith) hj);
      })

  peak_mirrored : peak c (east_west.state c s) ≡ peak c s
  peak_mirrored =
      peak_same c c (east_west.state c s) s
      (λ i j hi hj. (c.columns - 1 - i, j, omega arith, hj, state_mirrored.height i (c.columns - 1 - i) j (omega arith) hj))
      (λ i j hi hj. (c.columns - 1 - i, j, omega arith, hj, sym (state_mirrored.height (c.columns - 1 - i) i j (omega arith) hj)))

  number_mirrored : step_number c (east_west.land c g) (east_west.state c s) ≡ step_number c g s
  unfolding step_number_by
  number_mirrored = numbers c (read_state c s) (read_state c (east_west.state c s)) state_mirrored (read_ground c g) (read_ground c (east_west.land c g)) ground_mirrored new_velocity fair

  check_mirrored : check c g s ≡ 0 → check c (east_west.land c g) (east_west.state c s) ≡ 0
  check_mirrored e =
      let p = check_sound c g s e in
      sound_check c (east_west.land c g) (east_west.state c s) (record {
        card = p.card;
        lengths = written_fits c _ _ (length-grid c.columns c.rows _);
        values = values_same c (read_state c s) (read_state c (east_west.state c s)) state_mirrored (read_ground c g) (read_ground c (east_west.land c g)) ground_mirrored ∙ p.values;
      })

-- ---- the cells: each goes to the mirrored column of its row

mirrored_column : (c : Card) (i : ℕ) → i < c.columns → c.columns - 1 - i < c.columns
mirrored_column c i h = omega arith

cell_place_lem : (c : Card) (k : ℕ) → k < cells c → east_west.cell c k < cells c
cell_place_lem c k h = let a = at c k h in digits_lt a.row (mirrored_column c (k % c.columns) a.column)

cell_twice : (c : Card) (k : ℕ) → k < cells c → east_west.cell c (east_west.cell c k) ≡ k
cell_twice c k h =
    let a = at c k h in
    let i = k % c.columns in
    let back : c.columns - 1 - (c.columns - 1 - i) ≡ i = omega (arith, a.column) in
    read_back (λ (x y : ℕ). y * c.columns + (c.columns - 1 - x)) c.columns (c.columns - 1 - i) (k / c.columns) (mirrored_column c i a.column)
    ∙ ap (λ (x : ℕ). k / c.columns * c.columns + x) back
    ∙ a.is

cell_height : (c : Card) (s : List ℤ) (k : ℕ) → k < cells c → get_or (east_west.state c s) (east_west.cell c k) (pos 0) ≡ get_or s k (pos 0)
unfolding read_state
cell_height c s k h =
    let a = at c k h in
    let i = k % c.columns in
    (state_mirrored c s s).height (c.columns - 1 - i) i (k / c.columns) (omega (arith, a.column)) a.row ∙ ap (λ (x : ℕ). get_or s x (pos 0)) a.is

cell_faces : (c : Card) (s v : List ℤ) → SameFaces c s v → SameFaces c (east_west.state c s) (east_west.state c v)
cell_faces c s v e =
    faces_written c _ _ (ap (λ (f : Field). λ i j. neg_ℤ (f (c.columns - i) j)) (east_same e)) (ap (λ (f : Field). λ i j. f (c.columns - 1 - i) j) (north_same e))

pub lawful : Lawful east_west
lawful = record {
  steps = λ c. refl;
  checks = check_mirrored;
  numbers = number_mirrored;
  states = next_mirrored;
  peaks = λ c s. peak_mirrored c s s;
  places = cell_place_lem;
  apart = told_apart east_west (λ c. refl) cell_place_lem cell_twice;
  from = comes_from east_west (λ c. refl) cell_place_lem cell_twice;
  long = λ c s. length_state c _;
  heights = cell_height;
  faces = cell_faces;
}

pub gives_back : GivesBack east_west
gives_back = record {
  card = λ c. refl;
  cell = cell_twice;
  land = λ c g e.
      grid_same c.columns c.rows _ (read_ground c g) (λ i j hi hj. (ground_mirrored c g g).same (c.columns - 1 - i) i j (omega arith) hj)
      ∙ grid_read c g e;
  state = λ c s e.
      let 𝓜 = state_mirrored c s s in
      write_same c _ (read_state c s) (record {
        height = λ i j hi hj. 𝓜.height (c.columns - 1 - i) i j (omega arith) hj;
        east = λ i j hi hj. ap neg_ℤ (𝓜.east (c.columns - i) i j (omega arith) hj) ∙ neg_ℤ-neg_ℤ ((read_state c s).east i j);
        north = λ i j hi hj. 𝓜.north (c.columns - 1 - i) i j (omega arith) hj;
      })
      ∙ write_read c s e;
}
