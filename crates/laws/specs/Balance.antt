-- The balance of a face's cell, document 002's (13): its new sum is its old sum less the flow out over its four dual edges, and so its own share and all flow in.
-- It holds of every face that a site has, whatever the site holds.
use Rattle.std.specs.Prelude.{ℕ, zero, suc, ◌≡◌, ℤ, pos, negsuc, neg_ℤ, ◌-ℤ◌}
use Rattle.std.proofs.Math.Path.{refl, ap₂}
use Rattle.std.proofs.Common.{ap, ◌∙◌}
use Rattle.std.proofs.Math.IntN.{◌+ℤ◌, +ℤ_idl, +ℤ_idr}
use Rattle.rules.specs.declared.Card.{Card}
use Rattle.rules.specs.declared.Face.{Face}
use Rattle.rules.specs.Grid.{Field}
use Rattle.rules.specs.Site.{Water}
use Rattle.rules.specs.Step.{forward, new_height, east_face, north_face, out_ahead, out_behind, out_above, out_below, positive, old_sum, new_sum, own_share, flow_in, all_flow_in}
use Rattle.laws.specs.Numbers.{sums}

-- the flow over all four dual edges, as (13) adds it up
abbrev pub flow_over : Face → ℤ
flow_over f = out_ahead f +ℤ out_behind f +ℤ (out_above f +ℤ out_below f)

-- a flow is what of it goes out, less what of it comes in
out_less_in : (out : ℤ) → positive out -ℤ flow_in out ≡ out
unfolding positive forward
out_less_in (pos zero) = refl
out_less_in (pos (suc n)) = +ℤ_idr (pos (suc n))
out_less_in (negsuc n) = +ℤ_idl (negsuc n)

taken_together : (h p q r s p' q' r' s' : ℤ)
    → h -ℤ (p +ℤ q +ℤ (r +ℤ s)) +ℤ (p' +ℤ q' +ℤ (r' +ℤ s')) ≡ h -ℤ ((p -ℤ p') +ℤ (q -ℤ q') +ℤ ((r -ℤ r') +ℤ (s -ℤ s')))
taken_together h p q r s p' q' r' s' = simp sums

-- what stays and what comes in, of any face
pub share_and_inflow : (f : Face) → own_share f +ℤ all_flow_in f ≡ old_sum f -ℤ flow_over f
unfolding own_share
share_and_inflow f =
    let a = out_ahead f in
    let b = out_behind f in
    let n = out_above f in
    let s = out_below f in
    taken_together (old_sum f) (positive a) (positive b) (positive n) (positive s) (flow_in a) (flow_in b) (flow_in n) (flow_in s)
    ∙ ap (λ (x : ℤ). old_sum f -ℤ x) (ap₂ ◌+ℤ◌ (ap₂ ◌+ℤ◌ (out_less_in a) (out_less_in b)) (ap₂ ◌+ℤ◌ (out_less_in n) (out_less_in s)))

both_cells : (k l b o a bk bl ak al : ℤ)
    → k +ℤ b -ℤ o +ℤ bk -ℤ ak +ℤ (l +ℤ o -ℤ a +ℤ bl -ℤ al) ≡ k +ℤ l -ℤ (o +ℤ a +ℤ neg_ℤ (o +ℤ b) +ℤ (ak +ℤ al +ℤ neg_ℤ (bk +ℤ bl)))
both_cells k l b o a bk bl ak al = simp sums

-- (13), where K and L take in and let out over their four faces: (7b) of each
module _ (f : Face) (in_k : f.new_k ≡ f.old_k +ℤ f.behind -ℤ f.own +ℤ f.below_k -ℤ f.above_k) (in_l : f.new_l ≡ f.old_l +ℤ f.own -ℤ f.ahead +ℤ f.below_l -ℤ f.above_l) where
  balanced : new_sum f ≡ old_sum f -ℤ flow_over f
  unfolding out_ahead out_behind out_above out_below
  balanced = ap₂ ◌+ℤ◌ in_k in_l ∙ both_cells f.old_k f.old_l f.behind f.own f.ahead f.below_k f.below_l f.above_k f.above_l

-- what crosses a northward face comes last in a new height
last_first : (h a b x y : ℤ) → h +ℤ a -ℤ b +ℤ x -ℤ y ≡ h +ℤ x -ℤ y +ℤ a -ℤ b
last_first h a b x y = simp sums

-- and so of the faces of a site
module _ (c : Card) (g : Field) (w : Water) (i j : ℕ) where
  pub east_balance : new_sum (east_face c g w i j) ≡ old_sum (east_face c g w i j) -ℤ flow_over (east_face c g w i j)
  unfolding east_face new_height
  east_balance = balanced (east_face c g w i j) refl refl

  pub north_balance : new_sum (north_face c g w i j) ≡ old_sum (north_face c g w i j) -ℤ flow_over (north_face c g w i j)
  unfolding north_face new_height
  north_balance =
      let f = north_face c g w i j in
      balanced f (last_first f.old_k f.below_k f.above_k f.behind f.own) (last_first f.old_l f.below_l f.above_l f.own f.ahead)
