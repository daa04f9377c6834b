-- `check`: nothing is asked besides.
use Rattle.rules.specs.Site.{check}
use Rattle.site.proofs.check.Goals as goal

pub returns : goal.returns
unfolding check
returns c = c.check_also.ensures
