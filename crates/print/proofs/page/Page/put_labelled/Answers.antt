-- `put_labelled`: the number behind the word.
use Rattle.rules.specs.Text.{decimal}
use Rattle.rules.specs.Play.{labelled}
use Rattle.print.proofs.Pages.{put_more}
use Rattle.print.proofs.page.Page.put_labelled.Goals as goal

pub returns-clause-text : goal.returns-clause-text
unfolding labelled
returns-clause-text c = put_more c.args.self.now c.args.word.now (decimal c.args.n) c.put.ensures c.put_decimal.ensures.text
