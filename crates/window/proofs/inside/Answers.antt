-- `inside`: four tests, the first two looked at before the others. That a sum with 0 compares as what it was is among what may be used, so that a sum is no reason to refuse.
use mathlib.Core.Path.{◌≡◌, sym, ap, ap₂, ◌∙◌}
use mathlib.Core.Bool.{Bool, true, false, ◌&&◌}
use borrow.Author.Rules.{rules}
use lib.IntN.{ℤ}
use lib.Ieee.{Float, le}
use Rattle.rules.specs.declared.Window.{Window}
use Rattle.rules.specs.Search.{as_float, in_order, inside}
use Rattle.laws.specs.Floats.{Alike, alike, plus_nothing, minus_nothing}
use Rattle.window.proofs.inside.Goals as goal

at_least : {x u edge v : Float} → Alike x edge → u ≡ v → le x u ≡ le edge v
at_least {u = u} {edge} a e = a.low u ∙ ap (le edge) e

at_most : {x u edge v : Float} → Alike x edge → u ≡ v → le u x ≡ le v edge
at_most {u = u} {edge} a e = a.high u ∙ ap (λ z. le z edge) e

both : {a b p q : Bool} → a ≡ p → b ≡ q → (a && b) ≡ (p && q)
both = ap₂ ◌&&◌

-- the two tests along x passed, and those along y decide; they failed
module _ (w : Window) (x y : ℤ) where
  by_y : {a b : Bool} → a ≡ true → a ≡ in_order w.west (as_float x) w.east → b ≡ in_order w.south (as_float y) w.north → b ≡ inside w x y
  unfolding inside
  by_y t e f = rw (sym e ∙ t) f

  by_x : {a : Bool} → a ≡ false → a ≡ in_order w.west (as_float x) w.east → false ≡ inside w x y
  unfolding inside
  by_x t e = rw (sym e ∙ t)

ruleset tests = (both, at_least, at_most, alike, plus_nothing, minus_nothing, rules)

pub returns-then-x_inside : goal.returns-then-x_inside
returns-then-x_inside c = by_y _ _ _ c.if-x_inside.true (search tests depth 9) (search tests depth 9)

pub returns : goal.returns
returns c = by_x _ _ _ c.if-x_inside.false (search tests depth 9)
