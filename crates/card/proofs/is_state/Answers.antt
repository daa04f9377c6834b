-- `is_state`: the length is asked for only where the card fits.
use mathlib.Core.Path.{sym, ◌∙◌}
use Rattle.card.proofs.is_state.Goals as goal

pub returns-then-card_fits : goal.returns-then-card_fits
returns-then-card_fits c = rw (sym c.card_fits.ensures ∙ c.if-card_fits.true, c.state_length.ensures.0)

pub returns : goal.returns
returns c = rw (sym c.card_fits.ensures ∙ c.if-card_fits.false)
