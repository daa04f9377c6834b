-- `search_parts`: the two parts of the list are the two lists of the search.
use mathlib.Core.Path.{◌≡◌, sym, ◌∙◌, ap, subst}
use mathlib.Core.List.{List}
use Prim.Native.Nat.{ℕ, ◌-◌}
use lib.IntN.{ℤ}
use lib.ListN.{length, take, drop, length-drop}
use lib.Seq.{take-length}
use mir.Facts.{to_z-of_z}
use Rattle.records.specs.Gathered.{PartsContract}
use Rattle.records.proofs.search_parts.Goals as goal

pub returns : goal.returns
returns c =
    let a = c.args in
    let behind : List ℤ = drop 1000 a.both.now in
    let whole : take (length a.both.now - 1000) behind ≡ behind = ap (λ (k : ℕ). take k behind) (sym (length-drop 1000 a.both.now)) ∙ take-length behind in
    subst (λ (z : ℤ). PartsContract a.card a.land.now a.state.now a.both.now a.n a.window z a.found.now c.search_lists.result c.search_lists.new.found) (to_z-of_z c.ranges.depth)
    (rw whole at c.search_lists.ensures)
