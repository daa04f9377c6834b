-- North for south is axes swapped, east for west, axes swapped: so it keeps what those two keep.
use Rattle.std.specs.Prelude.{ℕ, ◌+◌, ◌-◌, ◌*◌, ◌/◌, ◌%◌, ◌<◌, ◌≡◌, refl, List, ℤ, neg_ℤ, length}
use Rattle.std.proofs.Common.{ap, ◌∙◌, subst, arith}
use Rattle.rules.specs.declared.Card.{Card}
use Rattle.rules.specs.Site.{cells, state_length}
use Rattle.rules.specs.Turn.{Turn, east_west, north_south, swap_axes, swap_card}
use Rattle.laws.specs.Grids.{length-grid, grid_same}
use Rattle.laws.specs.States.{height_back, east_back, north_back, ground_back_lem, length_state, write_same}
use Rattle.promises.specs.Turning.{Lawful, ◌then◌, both, with_cell, same_cells}
use Rattle.promises.specs.Cells.{at, read_back}
use Rattle.promises.specs.TakenTwice.{GivesBack}
use Rattle.promises.specs.EastWest as E
use Rattle.promises.specs.SwapAxes as S

abbrev swap_turn_swap : Turn
swap_turn_swap = ◌then◌ (◌then◌ swap_axes east_west) swap_axes

ground_north : (c : Card) (g : List ℤ) → swap_turn_swap.land c g ≡ north_south.land c g
ground_north c g =
    grid_same c.columns c.rows _ _ (λ i j hi hj.
    ground_back_lem (swap_card c) _ j i hj hi ∙ ground_back_lem (swap_card c) _ (c.rows - 1 - j) i (omega arith) hi)

state_north : (c : Card) (s : List ℤ) → swap_turn_swap.state c s ≡ north_south.state c s
state_north c s =
    write_same c _ _ (record {
      height = λ i j hi hj. height_back (swap_card c) _ j i hj hi ∙ height_back (swap_card c) _ (c.rows - 1 - j) i (omega arith) hi;
      east = λ i j hi hj. north_back (swap_card c) _ j i hj hi ∙ north_back (swap_card c) _ (c.rows - 1 - j) i (omega arith) hi;
      north = λ i j hi hj. east_back (swap_card c) _ j i hj hi ∙ ap neg_ℤ (east_back (swap_card c) _ (c.rows - j) i (omega arith) hi);
    })

-- of the cells that the site has
cell_north : (c : Card) (k : ℕ) → k < cells c → swap_turn_swap.cell c k ≡ north_south.cell c k
cell_north c k h =
    let a = at c k h in
    let i = k % c.columns in
    let j = k / c.columns in
    let there : ℕ → ℕ → ℕ = λ x y. x * c.columns + y in
    let mirrored : c.rows - 1 - j < c.rows = omega (arith, a.row) in
    read_back (λ (x y : ℕ). there ((y * c.rows + (c.rows - 1 - x)) % c.rows) ((y * c.rows + (c.rows - 1 - x)) / c.rows)) c.rows j i a.row
    ∙ read_back there c.rows (c.rows - 1 - j) i mirrored

north_is : with_cell swap_turn_swap north_south.cell ≡ north_south
north_is = λ x. record { card = λ c. c; cell = north_south.cell; land = λ c g. ground_north c g x; state = λ c s. state_north c s x }

pub lawful : Lawful north_south
lawful =
    subst Lawful north_is (same_cells swap_turn_swap north_south.cell cell_north
    (both (◌then◌ swap_axes east_west) swap_axes (both swap_axes east_west S.lawful E.lawful) S.lawful))

-- each of the three turns undoes itself in turn, the last first
ground_twice : (c : Card) (g : List ℤ) → length g ≡ cells c → swap_turn_swap.land c (swap_turn_swap.land c g) ≡ g
ground_twice c g e =
    ap (λ (h : List ℤ). swap_axes.land (swap_card c) (east_west.land (swap_card c) h))
    ((S.gives_back).land (swap_card c) _ (length-grid c.rows c.columns _))
    ∙ ap (swap_axes.land (swap_card c)) ((E.gives_back).land (swap_card c) _ (length-grid c.rows c.columns _))
    ∙ (S.gives_back).land c g e

state_twice : (c : Card) (s : List ℤ) → length s ≡ state_length c → swap_turn_swap.state c (swap_turn_swap.state c s) ≡ s
state_twice c s e =
    ap (λ (v : List ℤ). swap_axes.state (swap_card c) (east_west.state (swap_card c) v))
    ((S.gives_back).state (swap_card c) _ (length_state (swap_card c) _))
    ∙ ap (swap_axes.state (swap_card c)) ((E.gives_back).state (swap_card c) _ (length_state (swap_card c) _))
    ∙ (S.gives_back).state c s e

-- and a row goes to the mirrored one, and back
cell_twice : (c : Card) (k : ℕ) → k < cells c → north_south.cell c (north_south.cell c k) ≡ k
cell_twice c k h =
    let a = at c k h in
    let j = k / c.columns in
    let back : c.rows - 1 - (c.rows - 1 - j) ≡ j = omega (arith, a.row) in
    read_back (λ (x y : ℕ). (c.rows - 1 - y) * c.columns + x) c.columns (k % c.columns) (c.rows - 1 - j) a.column
    ∙ ap (λ (y : ℕ). y * c.columns + k % c.columns) back
    ∙ a.is

pub gives_back : GivesBack north_south
gives_back = subst GivesBack north_is (record { card = λ c. refl; cell = cell_twice; land = ground_twice; state = state_twice })
