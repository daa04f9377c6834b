-- `refused_line`: the line feed behind the number.
use Rattle.rules.specs.Play.{labelled, refused_word, line_feed, refused_line}
use Rattle.print.proofs.Pages.{put_more}
use Rattle.print.proofs.refused_line.Goals as goal

pub returns : goal.returns
unfolding refused_line
returns c = put_more c.args.page.now (labelled refused_word c.args.number) line_feed c.put_labelled.ensures.text c.put.ensures
