use Rattle.print.proofs.Pages.{page_shows}
use Rattle.print.proofs.page.Page.put.Goals as goal

pub returns : goal.returns
returns c = page_shows c.self.inside.room c.self.told c.self.invariant c.self.view_is c.put_front.ensures c.requires
