-- What follows from the law of the step limit alone (`leaves_at_most`): a new height is at least 0 and a transfer at most a height, so that what a step writes fits
-- a word; and no own share is negative.
use Rattle.std.specs.Prelude.{ℕ, suc, ◌+◌, ◌-◌, ◌≤◌, ◌<◌, ◌≡◌, refl, T, ℤ, pos, negsuc, neg_ℤ, nat_abs, ◌+ℤ◌, ◌-ℤ◌}
use Rattle.std.proofs.Common.{zero-le, ap, ◌∙◌, subst, le_trans, le→leb}
use native.Mathlib.Omega.{arith}
use Rattle.std.proofs.Math.IntN.{+ℤ-neg_ℤ_cancel}
use Rattle.std.specs.Int.Signed.{le_z}
use Rattle.rules.specs.declared.Card.{Card}
use Rattle.rules.specs.Grid.{Field}
use Rattle.rules.specs.Site.{Water, height_fits, heights_fit}
use Rattle.rules.specs.Step.{walled, east_transfer, north_transfer, forward, backward, within_limit, limit_kept, new_height, east_face, north_face, own_share}
use Rattle.rules.proofs.Shares.{share_low}
use Rattle.laws.specs.Tests.{and_left, and_right}
use Rattle.laws.specs.Numbers.{le_z_trans, le_z_refl, le_z-add, le_z-neg}
use Rattle.laws.specs.Sizes.{Within, within_order}
use Rattle.laws.specs.Grids.{all_at_at}
use Rattle.laws.specs.Walls.{on_inner, everywhere}
use Rattle.laws.specs.Outward.{within_ways, at_most_forward, at_least_backward}
use Rattle.laws.specs.Limit.{leaving, leaves_at_most}

-- ---- no new height is below 0

left_over : (r e d b a : ℕ) → pos (r + e + d + b + a) -ℤ pos a -ℤ pos b -ℤ pos d -ℤ pos e ≡ pos r
left_over r e d b a =
    ap (λ (x : ℤ). x -ℤ pos b -ℤ pos d -ℤ pos e) (+ℤ-neg_ℤ_cancel (pos (r + e + d + b)) (pos a))
    ∙ ap (λ (x : ℤ). x -ℤ pos d -ℤ pos e) (+ℤ-neg_ℤ_cancel (pos (r + e + d)) (pos b))
    ∙ ap (λ (x : ℤ). x -ℤ pos e) (+ℤ-neg_ℤ_cancel (pos (r + e)) (pos d))
    ∙ +ℤ-neg_ℤ_cancel (pos r) (pos e)

add_back : (h t a b d e : ℕ) → t ≡ a + b + d + e → t ≤ h → h ≡ (h - t) + e + d + b + a
add_back h t a b d e p l = omega arith

at_least : (z : ℤ) → T (le_z (pos 0) z) → T (le_z (pos (nat_abs z)) z)
at_least (pos n) t = le_z_refl (pos n)
at_least (negsuc n) t = absurd t

not_below : (c : Card) (w : Water) (i j : ℕ) → 0 < c.dx → 0 < c.dy → T (le_z (pos 0) (w.height i j)) → T (within_limit c w i j)
    → T (le_z (pos 0) (new_height c w i j))
unfolding new_height leaving
not_below c w i j hx hy h l =
    let z = w.height i j in
    let tw = east_transfer c w i j in
    let te = east_transfer c w (suc i) j in
    let ts = north_transfer c w i j in
    let tn = north_transfer c w i (suc j) in
    let H = nat_abs z in
    let qw = backward tw in
    let qe = forward te in
    let qs = backward ts in
    let qn = forward tn in
    let k : qw + qe + qs + qn ≤ H = leaves_at_most c w i j hx hy l in
    let r = H - (qw + qe + qs + qn) in
    let e : pos H -ℤ pos qw -ℤ pos qe -ℤ pos qs -ℤ pos qn ≡ pos r =
    ap (λ (x : ℕ). pos x -ℤ pos qw -ℤ pos qe -ℤ pos qs -ℤ pos qn) (add_back H (qw + qe + qs + qn) qw qe qs qn refl k) ∙ left_over r qn qs qe qw in
    le_z_trans (pos 0) (pos H -ℤ pos qw -ℤ pos qe -ℤ pos qs -ℤ pos qn) (z +ℤ tw -ℤ te +ℤ ts -ℤ tn)
    (rw e (le→leb 0 r zero-le))
    (le_z-add (pos H -ℤ pos qw -ℤ pos qe -ℤ pos qs) (z +ℤ tw -ℤ te +ℤ ts) (neg_ℤ (pos qn)) (neg_ℤ tn)
    (le_z-add (pos H -ℤ pos qw -ℤ pos qe) (z +ℤ tw -ℤ te) (neg_ℤ (pos qs)) ts
    (le_z-add (pos H -ℤ pos qw) (z +ℤ tw) (neg_ℤ (pos qe)) (neg_ℤ te)
    (le_z-add (pos H) z (neg_ℤ (pos qw)) tw (at_least z h) (at_least_backward tw))
    (le_z-neg te (pos qe) (at_most_forward te)))
    (at_least_backward ts))
    (le_z-neg tn (pos qn) (at_most_forward tn)))

-- ---- what crosses the faces of a row is within N where what leaves each inner face's K, and its L, is

row_within : {N : ℕ} (n : ℕ) (f : ℕ → ℤ) → ((k : ℕ) → suc k < n → forward (walled n f (suc k)) ≤ N) → ((k : ℕ) → suc k < n → backward (walled n f (suc k)) ≤ N)
    → (k : ℕ) → Within N (walled n f k)
row_within {N} n f a b =
    everywhere n f (λ k x. Within N x) (λ k. record { size = zero-le })
    (λ k h. subst (Within N) (on_inner n f k h) (within_ways (walled n f (suc k)) (a k h) (b k h)))

-- ---- a site whose heights fit and which keeps the limit

module _ (c : Card) (w : Water) (side_x : 0 < c.dx) (side_y : 0 < c.dy) (depths : T (heights_fit c w)) (limit : T (limit_kept c w)) where
  height_fits_lem : (i j : ℕ) → i < c.columns → j < c.rows → T (height_fits (w.height i j))
  unfolding heights_fit
  height_fits_lem i j hi hj = all_at_at c.columns c.rows (λ i j. height_fits (w.height i j)) depths i j hi hj

  low : (i j : ℕ) → i < c.columns → j < c.rows → T (le_z (pos 0) (w.height i j))
  low i j hi hj = and_left (le_z (pos 0) (w.height i j)) (le_z (w.height i j) (pos 50000000)) (height_fits_lem i j hi hj)

  old_within : (i j : ℕ) → i < c.columns → j < c.rows → Within 50000000 (w.height i j)
  old_within i j hi hj =
      within_order (w.height i j) (low i j hi hj) (and_right (le_z (pos 0) (w.height i j)) (le_z (w.height i j) (pos 50000000)) (height_fits_lem i j hi hj))

  within_limit_lem : (i j : ℕ) → i < c.columns → j < c.rows → T (within_limit c w i j)
  unfolding limit_kept
  within_limit_lem i j hi hj = all_at_at c.columns c.rows (within_limit c w) limit i j hi hj

  cell_leaves : (i j : ℕ) → i < c.columns → j < c.rows → leaving c w i j ≤ nat_abs (w.height i j)
  cell_leaves i j hi hj = leaves_at_most c w i j side_x side_y (within_limit_lem i j hi hj)

  all_leaving : (i j : ℕ) → i < c.columns → j < c.rows → leaving c w i j ≤ 50000000
  all_leaving i j hi hj = le_trans (cell_leaves i j hi hj) (old_within i j hi hj).size

  -- what crosses a face leaves its K or its L
  pub east_within : (i j : ℕ) → j < c.rows → Within 50000000 (east_transfer c w i j)
  unfolding east_transfer leaving
  east_within i j hj = row_within c.columns _ (λ k h. omega (arith, all_leaving k j (omega arith) hj)) (λ k h. omega (arith, all_leaving (suc k) j h hj)) i

  pub north_within : (i j : ℕ) → i < c.columns → Within 50000000 (north_transfer c w i j)
  unfolding north_transfer leaving
  north_within i j hi = row_within c.rows _ (λ k h. omega (arith, all_leaving i k hi (omega arith))) (λ k h. omega (arith, all_leaving i (suc k) hi h)) j

  pub new_low : (i j : ℕ) → i < c.columns → j < c.rows → T (le_z (pos 0) (new_height c w i j))
  new_low i j hi hj = not_below c w i j side_x side_y (low i j hi hj) (within_limit_lem i j hi hj)

  -- an own share loses no more than leaves K and L
  module _ (g : Field) where
    pub east_share : (i j : ℕ) → suc i < c.columns → j < c.rows → T (le_z (pos 0) (own_share (east_face c g w i j)))
    unfolding east_face leaving
    east_share i j hi hj =
        let k : i < c.columns = omega arith in
        share_low (east_face c g w i j) (low i j k hj) (low (suc i) j hi hj) (cell_leaves i j k hj) (cell_leaves (suc i) j hi hj)

    pub north_share : (i j : ℕ) → i < c.columns → suc j < c.rows → T (le_z (pos 0) (own_share (north_face c g w i j)))
    unfolding north_face leaving
    north_share i j hi hj =
        let k : j < c.rows = omega arith in
        share_low (north_face c g w i j) (low i j hi k) (low i (suc j) hi hj) (omega (arith, cell_leaves i j hi k)) (omega (arith, cell_leaves i (suc j) hi hj))
