-- `word_fits`: three tests, joined as the definition joins them.
use Rattle.pins_rules.specs.Table.{word_fits}
use Rattle.pin_table.proofs.word_fits.Goals as goal

pub returns : goal.returns
unfolding word_fits
returns c = cc (c.is_chamber-chamber.ensures, c.chamber_of.ensures, c.is_crew-crew.ensures, c.crew_of.ensures)
