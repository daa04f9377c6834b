-- The cell of a chamber on the site lies in the state, and its height is in its range; and such a height and a depth compared without their signs.
use mathlib.Core.Path.{◌≡◌, sym, subst}
use mathlib.Core.Bool.{Bool, true, false}
use mathlib.Core.List.{List}
use Prim.Native.Nat.{◌*◌, ◌<◌}
use native.Mathlib.Omega.{arith}
use lib.Arith.{digits_lt}
use lib.Dec.{T}
use lib.IntN.{ℤ, pos, negsuc, nat_abs}
use lib.Signed.{le_z}
use lib.ListN.{get_or}
use borrow.Author.Tests.{le-leb, lt-leb}
use Rattle.rules.specs.declared.Card.{Card}
use Rattle.rules.specs.Grid.{all}
use Rattle.rules.specs.Site.{card_fits, height_fits, heights_fit, read_state}
use Rattle.laws.specs.Facts.{card_facts}
use Rattle.laws.specs.Along.{cell_below}
use Rattle.laws.specs.Grids.{all_at_lem}
use Rattle.laws.specs.Tests.{to_T, true_of}
use Rattle.laws.specs.Values.{depths_flat}
use Rattle.chamber.specs.OnSite.{cell_place, DeepEnough}

pub place_below : (c : Card) → card_fits c ≡ true → (x y : ℤ) → cell_place c x y < c.rows * c.columns
place_below c e x y =
    let f = card_facts c e in
    digits_lt (cell_below c.dy c.rows y (omega arith)) (cell_below c.dx c.columns x (omega arith))

pub height_fits_lem : (c : Card) (s : List ℤ) → card_fits c ≡ true → heights_fit c (read_state c s) ≡ true → (x y : ℤ) → height_fits (get_or s (cell_place c x y) (pos 0)) ≡ true
height_fits_lem c s e kept x y =
    let all_fit : T (all (c.rows * c.columns) (λ k. height_fits (get_or s k (pos 0)))) = subst T (depths_flat c s) (to_T kept) in
    true_of (height_fits (get_or s (cell_place c x y) (pos 0))) (all_at_lem (c.rows * c.columns) (λ k. height_fits (get_or s k (pos 0))) all_fit (cell_place c x y) (place_below c e x y))

pub deep_is : (height depth : ℤ) → height_fits height ≡ true → height_fits depth ≡ true → (r : Bool) → DeepEnough (nat_abs height) (nat_abs depth) r → r ≡ le_z depth height
deep_is (pos h) (pos d) e f true t = sym (le-leb d h t)
deep_is (pos h) (pos d) e f false t = sym (lt-leb d h t)
deep_is (pos h) (negsuc d) e f r t = absurd (to_T f)
deep_is (negsuc h) depth e f r t = absurd (to_T e)
