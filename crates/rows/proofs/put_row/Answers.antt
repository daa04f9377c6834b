-- `put_row`: the line feed behind at most 32 texts of at most 9 bytes, 289 bytes in all.
use Rattle.rules.specs.Play.{line_feed, row_texts}
use Rattle.print.proofs.Pages.{put_more}
use Rattle.rows.proofs.put_row.Goals as goal

pub returns-clause-text : goal.returns-clause-text
returns-clause-text c =
    let a = c.args in
    put_more a.page.now (row_texts a.card a.state.now a.j a.card.columns) line_feed c.put_texts.ensures.text c.put.ensures
