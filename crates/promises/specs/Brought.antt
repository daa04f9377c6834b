-- Who counts for the bounds of document 02's [8]: the face's own velocity, and those of its parallel neighbours that brought water in; and the least and the greatest
-- of these.
use Rattle.std.specs.Prelude.{◌≡◌, cond, List, [], ◌∷◌, ◌++◌, ℤ, pos}
use Rattle.std.specs.Int.Signed.{lt_z}
use Rattle.rules.specs.declared.Face.{Face}
use Rattle.rules.specs.Grid.{min_z, max_z}
use Rattle.rules.specs.Step.{out_ahead, out_behind, out_above, out_below, flow_in}

-- a neighbour's velocity, if it brought water in: if the flow in over the dual edge between is above 0
unfoldable pub if_brought : (out v : ℤ) → List ℤ
if_brought out v = cond (lt_z (pos 0) (flow_in out)) (v ∷ []) []

-- so one that brought nothing does not count, whatever its velocity
pub brought_nothing : (out v : ℤ) → flow_in out ≡ pos 0 → if_brought out v ≡ []
unfolding if_brought
brought_nothing out v e = rw e

-- of the four parallel neighbours of a face. A wall is one of them, with velocity 0 (`walls_are_0`)
unfoldable pub velocities_brought : Face → List ℤ
velocities_brought f = if_brought (out_ahead f) f.u_ahead ++ (if_brought (out_behind f) f.u_behind ++ (if_brought (out_above f) f.u_above ++ if_brought (out_below f) f.u_below))

-- what is left of a velocity and others where one of each two is picked
unfoldable pub among : (pick : ℤ → ℤ → ℤ) (v : ℤ) (others : List ℤ) → ℤ
among pick v [] = v
among pick v (x ∷ xs) = among pick (pick v x) xs

-- the least and the greatest of the face's own velocity and of those
unfoldable pub least_counted : Face → ℤ
least_counted f = among min_z f.u (velocities_brought f)

unfoldable pub greatest_counted : Face → ℤ
greatest_counted f = among max_z f.u (velocities_brought f)
