-- `lengths_fit`: the two lengths that the card asks for.
use Rattle.rules.specs.Site.{lengths_fit}
use Rattle.site.proofs.lengths_fit.Goals as goal

pub returns : goal.returns
unfolding lengths_fit
returns c = cc (c.cells.ensures.0, c.state_length.ensures.0)
