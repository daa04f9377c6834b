-- `count_in`: one to twelve bytes, and all of them digits.
use mathlib.Core.Path.{sym, ◌∙◌}
use native.Mathlib.Omega.{arith}
use lib.ListN.{length}
use Rattle.rules.specs.Raster.{number_of}
use Rattle.raster_laws.specs.Sizes.{within_high, start_room, all_there, not_all, all_made, no_count, no_digits, is_count}
use Rattle.raster_laws.specs.Found.{let_through, kept_back}
use Rattle.decimals.proofs.counts.count_in.Goals as goal

pub returns-then-not-one_to : goal.returns-then-not-one_to
returns-then-not-one_to c = kept_back _ _ (no_count 12 c.args.word.now (sym c.one_to.ensures ∙ c.if-not-one_to.true))

pub digits_from-digits-requires : goal.digits_from-digits-requires
digits_from-digits-requires c = let w = c.args.word.now in start_room w (omega (arith, within_high 12 (length w) (sym c.one_to.ensures ∙ c.if-not-one_to.false)))

pub returns-then-digits-n : goal.returns-then-digits-n
returns-then-digits-n c = kept_back _ _ (no_digits 12 c.args.word.now (not_all c.digits_from-digits.ensures c.if-digits-n.true))

pub returns : goal.returns
unfolding number_of
returns c =
    let d = c.digits_from-digits.ensures in
    let_through _ _ (is_count 12 c.args.word.now (sym c.one_to.ensures ∙ c.if-not-one_to.false) (all_there d c.if-digits-n.false)) (all_made d c.if-digits-n.false)
