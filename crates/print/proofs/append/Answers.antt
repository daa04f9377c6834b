-- `append`: there is room for all of the text in the part from `at` on, and what is put there ends within the list.
use native.Mathlib.Omega.{arith}
use Rattle.print.proofs.Laws.{put_appended, put_ends}
use Rattle.print.proofs.append.Goals as goal

pub overflow_add-result : goal.overflow_add-result
overflow_add-result c =
    omega (arith, put_ends c.args.at c.args.out.now c.put_front-k.ensures c.requires)

pub returns : goal.returns
returns c =
    put_appended c.put_front-k.ensures c.requires
