-- `fraction_from`: nothing, or a point and the digits behind it, whose number is taken up to six places.
use mathlib.Core.Path.{refl, ◌∙◌}
use native.Mathlib.Omega.{arith}
use borrow.Author.Tests.{ne_eqb}
use Rattle.raster_laws.specs.Sizes.{fraction_none, no_point, whole_small, more_behind, point_room, fraction_no, fraction_yes, fraction_size, places_few, made_small}
use Rattle.raster_laws.specs.Found.{let_through, kept_back}
use Rattle.decimals.proofs.sizes.fraction_from.Goals as goal

pub overflow_mul-result : goal.overflow_mul-result
overflow_mul-result c = omega (arith, whole_small c.requires)

pub returns-then-at-n : goal.returns-then-at-n
returns-then-at-n c = let f = fraction_none c.args.word.now c.args.at c.if-at-n.true in let_through _ _ f.0 (omega (arith, f.1))

pub returns-then-word-at-ne46 : goal.returns-then-word-at-ne46
returns-then-word-at-ne46 c = kept_back _ _ (no_point c.args.word.now c.args.at (more_behind c.requires c.if-at-n.false) (ne_eqb _ _ c.if-word-at-ne46.true))

pub digits_from-digits-requires : goal.digits_from-digits-requires
digits_from-digits-requires c = point_room c.requires (more_behind c.requires c.if-at-n.false)

pub returns-then-digits-n : goal.returns-then-digits-n
returns-then-digits-n c = kept_back _ _ (fraction_no c.requires (more_behind c.requires c.if-at-n.false) c.if-word-at-ne46.false c.digits_from-digits.ensures _ refl _ c.one_to.ensures c.if-digits-n.true)

pub scaled-requires : goal.scaled-requires
scaled-requires c =
    let more = more_behind c.requires c.if-at-n.false in
    let d = c.digits_from-digits.ensures in
    (places_few c.requires more c.if-word-at-ne46.false d _ refl _ c.one_to.ensures c.if-digits-n.false, made_small c.requires more c.if-word-at-ne46.false d _ refl _ c.one_to.ensures c.if-digits-n.false)

pub returns : goal.returns
returns c =
    let more = more_behind c.requires c.if-at-n.false in
    let d = c.digits_from-digits.ensures in
    let_through _ _ (fraction_yes c.requires more c.if-word-at-ne46.false d _ refl _ c.one_to.ensures c.if-digits-n.false)
    (c.scaled.ensures ∙ fraction_size c.requires more c.if-word-at-ne46.false d _ refl _ c.one_to.ensures c.if-digits-n.false)
