-- `pairs_still`: one turn gathers the test of one more pair.
use mathlib.Core.Bool.{◌&&◌}
use Prim.Native.Nat.{◌+◌, ◌*◌}
use lib.IntN.{pos}
use lib.ListN.{get_or}
use Rattle.rules.specs.Site.{is_zero}
use Rattle.laws.specs.Gather.{Gathered}
use Rattle.walls.proofs.pairs_still.Given as goal

abbrev pub invariant-loop-k : goal.invariant-loop-k
invariant-loop-k g l =
    let row = g.W.Words.words l.row in
    Gathered l.n (λ k. is_zero (get_or row (l.first + k * l.stride) (pos 0)) && is_zero (get_or row (l.second + k * l.stride) (pos 0))) l.ok l.k
