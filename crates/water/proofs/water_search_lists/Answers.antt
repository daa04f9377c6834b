-- `water_search_lists`: all is handed on, and the depth reaches the search as it was.
use mir.Facts.{to_z-of_z}
use Rattle.water.proofs.water_search_lists.Goals as goal

pub returns : goal.returns
returns c = simp (to_z-of_z c.ranges.depth) at c.search_lists.ensures
