-- `listed_at`: the register was checked whole, so each of its chambers lies on the site.
use borrow.Author.Rules.{rules}
use mathlib.Core.Path.{◌≡◌, ◌∙◌}
use mathlib.Core.Bool.{true}
use Prim.Native.Nat.{◌*◌}
use lib.IntN.{ℤ, pos}
use lib.ListN.{get_or}
use mir.Syntax.{w64}
use mir.Val.{to_z, of_z}
use mir.Facts.{to_z-of_z}
use Rattle.rules.specs.Search.{along_fits}
use Rattle.laws.specs.Along.{all_along_lem}
use Rattle.register.proofs.listed_at.Goals as goal

pub listed-requires : goal.listed-requires
listed-requires c =
    let x : ℤ = get_or c.args.xs.now c.args.k (pos 0) in
    let y : ℤ = get_or c.args.ys.now c.args.k (pos 0) in
    let x_is : to_z w64 (of_z w64 x) ≡ x = to_z-of_z {w = w64} {z = x} (record { sfits = c.listed-arg-1.given }) in
    let y_is : to_z w64 (of_z w64 y) ≡ y = to_z-of_z {w = w64} {z = y} (record { sfits = c.listed-arg-2-1.given }) in
    let x_fits : along_fits (c.args.card.columns * c.args.card.dx) x ≡ true = all_along_lem _ c.args.xs.now c.requires.0.x_fits c.args.k (search rules) in
    let y_fits : along_fits (c.args.card.rows * c.args.card.dy) y ≡ true = all_along_lem _ c.args.ys.now c.requires.0.y_fits c.args.k (search rules) in
    let p = c.requires.0 in
    record { on = record { card = p.card; x_fits = rw x_is x_fits; y_fits = rw y_is y_fits }; heights = p.heights; kept = p.kept; asked = rw (to_z-of_z c.ranges.depth) p.asked }

pub returns : goal.returns
returns c =
    let x : ℤ = get_or c.args.xs.now c.args.k (pos 0) in
    let y : ℤ = get_or c.args.ys.now c.args.k (pos 0) in
    let x_is : to_z w64 (of_z w64 x) ≡ x = to_z-of_z {w = w64} {z = x} (record { sfits = c.listed-arg-1.given }) in
    let y_is : to_z w64 (of_z w64 y) ≡ y = to_z-of_z {w = w64} {z = y} (record { sfits = c.listed-arg-2-1.given }) in
    c.listed.ensures ∙ simp (x_is, y_is, to_z-of_z c.ranges.depth)
