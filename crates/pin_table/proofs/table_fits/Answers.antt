-- `table_fits`: a word that does not fit, or three tests, joined as the definition joins them.
use Rattle.std.proofs.Common.{rules}
use mathlib.Core.Path.{◌≡◌, sym, ◌∙◌}
use mathlib.Core.Bool.{true}
use Rattle.laws.specs.Tests.{to_T}
use Rattle.pins_rules.specs.Table.{words_fit, table_fits}
use Rattle.pin_table.proofs.table_fits.Goals as goal

pub returns-then-not-words_fit : goal.returns-then-not-words_fit
unfolding table_fits
returns-then-not-words_fit c = rw (sym c.words_fit.ensures ∙ c.if-not-words_fit.true)

pub each_once-once-requires : goal.each_once-once-requires
each_once-once-requires c = record { fit = to_T (sym c.words_fit.ensures ∙ c.if-not-words_fit.false); clear = search rules }

pub returns : goal.returns
unfolding table_fits
returns c =
    let fit : words_fit c.args.table.now ≡ true = sym c.words_fit.ensures ∙ c.if-not-words_fit.false in
    rw fit (cc (c.each_once-once.ensures, c.held-one.ensures, c.held-two.ensures))
