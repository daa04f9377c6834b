-- `values_number`: 3 where the values fail or what is asked besides, and 0 elsewhere.
use mathlib.Core.Path.{◌≡◌, sym, ap, ◌∙◌}
use mathlib.Core.Bool.{Bool, ◌&&◌}
use borrow.Author.Tests.{not-true, not-false}
use Rattle.rules.specs.Site.{values_fit, read_ground, read_state, first_of}
use Rattle.site.specs.Front.{values_also}
use Rattle.site.proofs.values_number.Goals as goal

pub returns-then-not-fit : goal.returns-then-not-fit
unfolding values_also first_of
returns-then-not-fit c =
    let fit_is : let a = c.args in (a.three && c.values_fit.result) ≡ (a.three && values_fit a.card (read_ground a.card a.land.now) (read_state a.card a.state.now)) = ap (λ (b : Bool). c.args.three && b) c.values_fit.ensures in
    rw (sym fit_is ∙ not-true _ c.if-not-fit.true-raw)

pub returns : goal.returns
unfolding values_also first_of
returns c =
    let fit_is : let a = c.args in (a.three && c.values_fit.result) ≡ (a.three && values_fit a.card (read_ground a.card a.land.now) (read_state a.card a.state.now)) = ap (λ (b : Bool). c.args.three && b) c.values_fit.ensures in
    rw (sym fit_is ∙ not-false _ c.if-not-fit.false-raw)
