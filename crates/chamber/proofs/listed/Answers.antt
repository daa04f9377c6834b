-- `listed`: where the window's test fails the answer is its own, and elsewhere the height's.
use borrow.Author.Rules.{rules, scaled_Fits}
use mathlib.Core.Path.{◌≡◌, sym, ◌∙◌, ap, subst}
use mathlib.Core.Bool.{true}
use native.Mathlib.Omega.{arith}
use Prim.Native.Nat.{ℕ, ◌≤◌, ◌<◌, ◌*◌, ◌^◌}
use lib.IntN.{ℤ, pos, nat_abs}
use lib.Signed.{le_z}
use lib.ListN.{length, get_or}
use mir.Syntax.{w32}
use mir.Val.{to_z, of_z}
use mir.Facts.{to_z-of_z}
use Rattle.std.proofs.Common.{FitsSigned}
use Rattle.rules.specs.Site.{height_fits, read_state}
use Rattle.rules.specs.Search.{inside, listed}
use Rattle.laws.specs.Facts.{card_facts}
use Rattle.laws.specs.Along.{along_low, along_high, along_float, reach_high}
use Rattle.chamber.specs.OnSite.{cell_place}
use Rattle.chamber.proofs.Cells.{place_below, height_fits_lem, deep_is}
use Rattle.chamber.proofs.listed.Goals as goal

pub inside-requires : goal.inside-requires
inside-requires c =
    let card = c.args.card in
    let f = card_facts card c.requires.on.card in
    let x_far : card.columns * card.dx ≤ 2 ^ 53 = omega (arith, reach_high f.columns_high f.dx_high) in
    let y_far : card.rows * card.dy ≤ 2 ^ 53 = omega (arith, reach_high f.rows_high f.dy_high) in
    rw (to_z-of_z c.ranges.x, to_z-of_z c.ranges.y) (along_float _ c.args.x x_far c.requires.on.x_fits, along_float _ c.args.y y_far c.requires.on.y_fits)

pub offset_bounds-state-at : goal.offset_bounds-state-at
offset_bounds-state-at c =
    let place_is : c.cell_place-at.result ≡ cell_place c.args.card c.args.x c.args.y = simp (c.cell_place-at.ensures, to_z-of_z c.ranges.x, to_z-of_z c.ranges.y) in
    let within : c.cell_place-at.result < length c.args.state.now = omega (arith, place_is, place_below c.args.card c.requires.on.card c.args.x c.args.y, c.requires.heights) in
    scaled_Fits c.cell_place-at.result (length c.args.state.now) 4 within (search rules)

pub bounds-state-at : goal.bounds-state-at
bounds-state-at c =
    let place_is : c.cell_place-at.result ≡ cell_place c.args.card c.args.x c.args.y = simp (c.cell_place-at.ensures, to_z-of_z c.ranges.x, to_z-of_z c.ranges.y) in
    let within : c.cell_place-at.result < length c.args.state.now = omega (arith, place_is, place_below c.args.card c.requires.on.card c.args.x c.args.y, c.requires.heights) in
    within

-- the height that is read and the depth asked: both are in their range, and lose nothing with their sign
pub overflow_cast-state : goal.overflow_cast-state
overflow_cast-state c =
    let place_is : c.cell_place-at.result ≡ cell_place c.args.card c.args.x c.args.y = simp (c.cell_place-at.ensures, to_z-of_z c.ranges.x, to_z-of_z c.ranges.y) in
    let height : ℤ = get_or c.args.state.now c.cell_place-at.result (pos 0) in
    let fits : FitsSigned w32 height = search rules in
    let height_is : to_z w32 (of_z w32 height) ≡ height = to_z-of_z fits in
    let height_in : height_fits height ≡ true = subst (λ (k : ℕ). height_fits (get_or c.args.state.now k (pos 0)) ≡ true) (sym place_is)
    (height_fits_lem c.args.card c.args.state.now c.requires.on.card c.requires.kept c.args.x c.args.y) in
    let high : nat_abs height ≤ 50000000 = along_high 50000000 height height_in in
    rw height_is (along_low 50000000 height height_in, omega (arith, high))

pub overflow_cast-depth : goal.overflow_cast-depth
overflow_cast-depth c =
    let depth_is : to_z w32 (of_z w32 c.args.depth) ≡ c.args.depth = to_z-of_z c.ranges.depth in
    let depth_high : nat_abs c.args.depth ≤ 50000000 = along_high 50000000 c.args.depth c.requires.asked in
    rw depth_is (along_low 50000000 c.args.depth c.requires.asked, omega (arith, depth_high))

pub deep_enough-requires : goal.deep_enough-requires
deep_enough-requires c =
    let place_is : c.cell_place-at.result ≡ cell_place c.args.card c.args.x c.args.y = simp (c.cell_place-at.ensures, to_z-of_z c.ranges.x, to_z-of_z c.ranges.y) in
    let height : ℤ = get_or c.args.state.now c.cell_place-at.result (pos 0) in
    let fits : FitsSigned w32 height = search rules in
    let height_is : to_z w32 (of_z w32 height) ≡ height = to_z-of_z fits in
    let depth_is : to_z w32 (of_z w32 c.args.depth) ≡ c.args.depth = to_z-of_z c.ranges.depth in
    let height_in : height_fits height ≡ true = subst (λ (k : ℕ). height_fits (get_or c.args.state.now k (pos 0)) ≡ true) (sym place_is)
    (height_fits_lem c.args.card c.args.state.now c.requires.on.card c.requires.kept c.args.x c.args.y) in
    let high : nat_abs height ≤ 50000000 = along_high 50000000 height height_in in
    let depth_high : nat_abs c.args.depth ≤ 50000000 = along_high 50000000 c.args.depth c.requires.asked in
    rw (height_is, depth_is) (high, depth_high)

pub returns-then-inside : goal.returns-then-inside
unfolding listed read_state
returns-then-inside c =
    let place_is : c.cell_place-at.result ≡ cell_place c.args.card c.args.x c.args.y = simp (c.cell_place-at.ensures, to_z-of_z c.ranges.x, to_z-of_z c.ranges.y) in
    let inside_is : c.inside.result ≡ inside c.args.window c.args.x c.args.y = simp (c.inside.ensures, to_z-of_z c.ranges.x, to_z-of_z c.ranges.y) in
    let height : ℤ = get_or c.args.state.now c.cell_place-at.result (pos 0) in
    let fits : FitsSigned w32 height = search rules in
    let height_is : to_z w32 (of_z w32 height) ≡ height = to_z-of_z fits in
    let depth_is : to_z w32 (of_z w32 c.args.depth) ≡ c.args.depth = to_z-of_z c.ranges.depth in
    let height_in : height_fits height ≡ true = subst (λ (k : ℕ). height_fits (get_or c.args.state.now k (pos 0)) ≡ true) (sym place_is)
    (height_fits_lem c.args.card c.args.state.now c.requires.on.card c.requires.kept c.args.x c.args.y) in
    let told = rw (height_is, depth_is) at c.deep_enough.ensures in
    deep_is height c.args.depth height_in c.requires.asked c.deep_enough.result told
    ∙ ap (λ (k : ℕ). le_z c.args.depth (get_or c.args.state.now k (pos 0))) place_is
    ∙ rw (sym inside_is ∙ c.if-inside.true)

pub returns : goal.returns
unfolding listed
returns c =
    let inside_is : c.inside.result ≡ inside c.args.window c.args.x c.args.y = simp (c.inside.ensures, to_z-of_z c.ranges.x, to_z-of_z c.ranges.y) in
    simp (sym inside_is ∙ c.if-inside.false)
