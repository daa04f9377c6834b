-- `edges_finite`: four tests of the library's, joined as the definition joins them.
use Rattle.std.specs.Float.{float_is_finite}
use mathlib.Core.Path.{◌≡◌, refl, ◌∙◌}
use lib.Ieee.{Float, nan, inf, fin}
use Rattle.rules.specs.Search.{is_finite, edges_finite}
use Rattle.window.proofs.edges_finite.Goals as goal

finite_is : (x : Float) → float_is_finite x ≡ is_finite x
unfolding float_is_finite
finite_is nan = refl
finite_is (inf s) = refl
finite_is (fin s m e) = refl

pub returns : goal.returns
unfolding edges_finite
returns c =
    let w = c.args.window in
    cc (
      c.is_finite.ensures.value ∙ finite_is w.west,
      c.is_finite-2.ensures.value ∙ finite_is w.south,
      c.is_finite-3.ensures.value ∙ finite_is w.east,
      c.is_finite-4.ensures.value ∙ finite_is w.north,
    )
