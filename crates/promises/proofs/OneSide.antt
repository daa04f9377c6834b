-- The least and the greatest, as bounds: of the face's own velocity and of each that was brought, and so of the carried part. Said once for both, over what is picked.
use Rattle.std.specs.Prelude.{◌≡◌, Bool, cond, ℤ, pos, ◌+ℤ◌}
use Rattle.std.proofs.Math.Bool.{true, false}
use mathlib.Core.List.{List, [], ◌∷◌, ◌++◌}
use Rattle.std.specs.Int.Signed.{le_z, lt_z}
use Rattle.std.proofs.Math.Dec.{T}
use Rattle.rules.specs.declared.Face.{Face}
use Rattle.rules.specs.Grid.{min_z, max_z}
use Rattle.rules.specs.Step.{out_ahead, out_behind, out_above, out_below, new_sum, own_share, flow_in, all_flow_in, carried_part}
use Rattle.laws.specs.Grids.{min_left, min_right, max_left, max_right}
use Rattle.laws.specs.Weighed.{WhereBrought, Side, AtLeast, AtMost, carried_side}
use Rattle.promises.specs.Brought.{if_brought, velocities_brought, among}

module _ (P : ℤ → Type 0) where
  -- every number of a list has P
  abbrev Every : List ℤ → Type 0
  Every [] = Unit {0}
  Every (x ∷ xs) = P x × Every xs

  in_front : (xs ys : List ℤ) → Every (xs ++ ys) → Every xs
  in_front [] ys e = tt
  in_front (x ∷ xs) ys e = (e.0, in_front xs ys e.1)

  behind : (xs ys : List ℤ) → Every (xs ++ ys) → Every ys
  behind [] ys e = e
  behind (x ∷ xs) ys e = behind xs ys e.1

  -- a neighbour that brought water is in the list
  counted : (out v : ℤ) → Every (if_brought out v) → WhereBrought P out v
  unfolding if_brought
  counted out v = go (lt_z (pos 0) (flow_in out))
    where
      go : (b : Bool) → Every (cond b (v ∷ []) []) → T b → P v
      go true e t = e.0
      go false e t = absurd t

  -- of the list of who brought, each by itself
  each : (f : Face) → Every (velocities_brought f)
      → WhereBrought P (out_ahead f) f.u_ahead × WhereBrought P (out_behind f) f.u_behind × WhereBrought P (out_above f) f.u_above × WhereBrought P (out_below f) f.u_below
  unfolding velocities_brought
  each f all =
      let a = if_brought (out_ahead f) f.u_ahead in
      let b = if_brought (out_behind f) f.u_behind in
      let n = if_brought (out_above f) f.u_above in
      let s = if_brought (out_below f) f.u_below in
      let after-a = behind a (b ++ (n ++ s)) all in
      let after-b = behind b (n ++ s) after-a in (
        counted (out_ahead f) f.u_ahead (in_front a (b ++ (n ++ s)) all),
        counted (out_behind f) f.u_behind (in_front b (n ++ s) after-a),
        counted (out_above f) f.u_above (in_front n s after-b),
        counted (out_below f) f.u_below (behind n s after-b),
      )

-- what is picked from two lies on one side of both
pub record Picks (R : ℤ → ℤ → Type 0) (pick : ℤ → ℤ → ℤ) : Type 0 where
  pub left : (a b : ℤ) → R (pick a b) a
  pub right : (a b : ℤ) → R (pick a b) b

pub picks_least : Picks AtLeast min_z
picks_least = record { left = min_left; right = min_right }

pub picks_greatest : Picks AtMost max_z
picks_greatest = record { left = max_left; right = max_right }

module _ {R : ℤ → ℤ → Type 0} {pick : ℤ → ℤ → ℤ} (𝓢 : Side R) (𝓟 : Picks R pick) where
  of_the_first : (v : ℤ) (xs : List ℤ) → R (among pick v xs) v
  unfolding among
  of_the_first v [] = 𝓢.same v
  of_the_first v (x ∷ xs) = 𝓢.through _ (pick v x) v (of_the_first (pick v x) xs) (𝓟.left v x)

  of_the_others : (v : ℤ) (xs : List ℤ) → Every (R (among pick v xs)) xs
  unfolding among
  of_the_others v [] = tt
  of_the_others v (x ∷ xs) = (𝓢.through _ (pick v x) x (of_the_first (pick v x) xs) (𝓟.right v x), of_the_others (pick v x) xs)

  -- so the carried part lies on that side of what is picked from all who count
  pub on_its_side : (f : Face) → T (le_z (pos 0) (own_share f)) → new_sum f ≡ own_share f +ℤ all_flow_in f → T (lt_z (pos 0) (new_sum f)) → R (among pick f.u (velocities_brought f)) (carried_part f)
  on_its_side f share balance above =
      let m = among pick f.u (velocities_brought f) in
      let q = each (R m) f (of_the_others f.u (velocities_brought f)) in
      carried_side 𝓢 m f share balance above (of_the_first f.u (velocities_brought f)) q.0 q.1 q.2 q.3
