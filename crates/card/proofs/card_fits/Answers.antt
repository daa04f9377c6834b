-- `card_fits`: six tests, joined as the definition joins them.
use Rattle.rules.specs.Site.{card_fits, sizes_fit, sides_fit, times_fit}
use Rattle.card.proofs.card_fits.Goals as goal

pub returns : goal.returns
unfolding card_fits sizes_fit sides_fit times_fit
returns c = rw (
  c.is_within-columns.ensures,
  c.is_within-rows.ensures,
  c.is_within-dx.ensures,
  c.is_within-dy.ensures,
  c.is_within-dt.ensures,
)
