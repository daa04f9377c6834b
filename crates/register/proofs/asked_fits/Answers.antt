-- `asked_fits`: four tests, joined as the definition joins them.
use mathlib.Core.Path.{◌≡◌, ◌∙◌, ap}
use Prim.Native.Nat.{◌*◌}
use mir.Syntax.{w64}
use mir.Facts.{to_z-of_z}
use Rattle.rules.specs.Site.{height_fits}
use Rattle.rules.specs.Search.{all_along, asked_fits}
use Rattle.laws.specs.Facts.{card_facts}
use Rattle.register.proofs.asked_fits.Goals as goal

pub reach-requires : goal.reach-requires
reach-requires c = let f = card_facts _ c.requires in (f.columns_high, f.dx_high)

pub reach-requires-2 : goal.reach-requires-2
reach-requires-2 c = let f = card_facts _ c.requires in (f.rows_high, f.dy_high)

pub returns : goal.returns
unfolding asked_fits
returns c =
    let a = c.args in
    let x_is : c.all_along-x.result ≡ all_along (a.card.columns * a.card.dx) a.xs.now = c.all_along-x.ensures ∙ simp (to_z-of_z {w = w64} {z = c.reach.result} (record { sfits = c.reach.type_inv }) ∙ c.reach.ensures) in
    let y_is : c.all_along-y.result ≡ all_along (a.card.rows * a.card.dy) a.ys.now = c.all_along-y.ensures ∙ simp (to_z-of_z {w = w64} {z = c.reach-2.result} (record { sfits = c.reach-2.type_inv }) ∙ c.reach-2.ensures) in
    let height_is : c.height_fits.result ≡ height_fits a.depth = c.height_fits.ensures ∙ ap height_fits (to_z-of_z c.ranges.depth) in
    cc (x_is, y_is, height_is, c.edges_finite.ensures)
