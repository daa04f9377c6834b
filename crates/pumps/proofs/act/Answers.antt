-- `act`: the height with what is added fits, and what is left of it; each number is the definition's.
use Rattle.pumps.proofs.Turns.{fits_raised, fits_after, turned_is}
use Rattle.pumps.proofs.act.Goals as goal

pub overflow_add-result : goal.overflow_add-result
overflow_add-result c = fits_raised c.requires c.max-plus.ensures.value c.max-wanted.ensures.value c.min-less.ensures.value

pub overflow_sub-result : goal.overflow_sub-result
overflow_sub-result c = fits_after c.requires c.max-plus.ensures.value c.max-wanted.ensures.value c.min-less.ensures.value

pub returns : goal.returns
returns c = turned_is c.requires c.max-plus.ensures.value c.max-wanted.ensures.value c.min-less.ensures.value c.unsigned_abs.ensures.value c.unsigned_abs-2.ensures.value
