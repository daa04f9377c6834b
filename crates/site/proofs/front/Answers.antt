-- `front`: the two tests that are made before any value is looked at.
use mathlib.Core.Path.{◌≡◌, sym, ap, ◌∙◌}
use mathlib.Core.Bool.{Bool, true, ◌&&◌}
use borrow.Author.Tests.{not-true, not-false}
use Rattle.rules.specs.Site.{card_fits, lengths_fit, first_of}
use Rattle.site.specs.Front.{front_also}
use Rattle.laws.specs.Tests.{and_right, to_T, true_of}
use Rattle.site.proofs.front.Goals as goal

pub returns-then-not-fits : goal.returns-then-not-fits
unfolding front_also first_of
returns-then-not-fits c =
    let card_is : (c.args.one && c.card_fits.result) ≡ (c.args.one && card_fits c.args.card) = ap (λ (b : Bool). c.args.one && b) c.card_fits.ensures in
    rw (sym card_is ∙ not-true _ c.if-not-fits.true-raw)

pub lengths_fit-requires : goal.lengths_fit-requires
lengths_fit-requires c =
    let card_is : (c.args.one && c.card_fits.result) ≡ (c.args.one && card_fits c.args.card) = ap (λ (b : Bool). c.args.one && b) c.card_fits.ensures in
    let passed : (c.args.one && card_fits c.args.card) ≡ true = sym card_is ∙ not-false _ c.if-not-fits.false-raw in
    true_of _ (and_right c.args.one _ (to_T passed))

pub returns-then-not-long : goal.returns-then-not-long
unfolding front_also first_of
returns-then-not-long c =
    let card_is : (c.args.one && c.card_fits.result) ≡ (c.args.one && card_fits c.args.card) = ap (λ (b : Bool). c.args.one && b) c.card_fits.ensures in
    let passed : (c.args.one && card_fits c.args.card) ≡ true = sym card_is ∙ not-false _ c.if-not-fits.false-raw in
    let lengths_is : (c.args.two && c.lengths_fit.result) ≡ (c.args.two && lengths_fit c.args.card c.args.land.now c.args.state.now) = ap (λ (b : Bool). c.args.two && b) c.lengths_fit.ensures in
    rw (passed, sym lengths_is ∙ not-true _ c.if-not-long.true-raw)

pub returns : goal.returns
unfolding front_also first_of
returns c =
    let card_is : (c.args.one && c.card_fits.result) ≡ (c.args.one && card_fits c.args.card) = ap (λ (b : Bool). c.args.one && b) c.card_fits.ensures in
    let passed : (c.args.one && card_fits c.args.card) ≡ true = sym card_is ∙ not-false _ c.if-not-fits.false-raw in
    let lengths_is : (c.args.two && c.lengths_fit.result) ≡ (c.args.two && lengths_fit c.args.card c.args.land.now c.args.state.now) = ap (λ (b : Bool). c.args.two && b) c.lengths_fit.ensures in
    rw (passed, sym lengths_is ∙ not-false _ c.if-not-long.false-raw)
