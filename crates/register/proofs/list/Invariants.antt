-- `list`: one turn lays one place more, where it is listed. There are at most 1,000 of them, and the draft has room for as many.
use lib.ListN.{length}
use Rattle.rules.specs.Search.{listed_at}
use Rattle.laws.specs.Listings.{Listing}
use Rattle.register.proofs.list.Given as goal

abbrev pub invariant-loop-k : goal.invariant-loop-k
invariant-loop-k l = Listing (length l.xs) (listed_at l.card l.state l.window l.depth l.xs l.ys) l.initial.draft l.k l.n l.draft
