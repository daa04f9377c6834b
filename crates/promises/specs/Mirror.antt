-- Two waters of which one is the other turned east for west: so are their next states.
-- A cell's column i and its mirror image i' are known by suc (i + i') ≡ columns, a face's by i + i' ≡ columns: no subtraction.
use Rattle.std.specs.Prelude.{ℕ, zero, suc, ◌+◌, ◌≤◌, ◌<◌, ◌≡◌, refl, Bool, true, false, cond, ℤ, pos, neg_ℤ, T, ltb}
use Rattle.std.proofs.Common.{sym, ◌∙◌, arith, ltb→lt}
use Rattle.std.proofs.Math.Nat.{add_comm}
use Rattle.rules.specs.declared.Card.{Card}
use Rattle.rules.specs.Grid.{Field}
use Rattle.rules.specs.Site.{Water}
use Rattle.rules.specs.Step.{Rule, east_transfer, north_transfer, forward, backward, within_limit, new_height, after, before, east_face, north_face, new_east, new_north, next}
use Rattle.rules.proofs.Fair.{transfer-turned, end_for_end, side_for_side, Fair}
use Rattle.laws.specs.Numbers.{sums}
use Rattle.laws.specs.Walls.{wall, inside, walled_same, walled_mirror}
use Rattle.laws.specs.Outward.{forward-neg, backward-neg}

pub record MirrorField (m n : ℕ) (f f' : Field) : Type 0 where
  pub same : (i i' j : ℕ) → suc (i + i') ≡ m → j < n → f' i j ≡ f i' j

pub record Mirror (c : Card) (w w' : Water) : Type 0 where
  pub height : (i i' j : ℕ) → suc (i + i') ≡ c.columns → j < c.rows → w'.height i j ≡ w.height i' j
  pub east : (i i' j : ℕ) → i + i' ≡ c.columns → j < c.rows → w'.east i j ≡ neg_ℤ (w.east i' j)
  pub north : (i i' j : ℕ) → suc (i + i') ≡ c.columns → j ≤ c.rows → w'.north i j ≡ w.north i' j

-- the parallel faces of an eastward face, and of a northward one
after_negated : (n : ℕ) (f f' : ℕ → ℤ) (j : ℕ) → (suc j < n → f' (suc j) ≡ neg_ℤ (f (suc j))) → after n f' j ≡ neg_ℤ (after n f j)
unfolding after
after_negated n f f' j h = go (ltb (suc j) n) (λ t. h (ltb→lt (suc j) n t))
  where
    go : (b : Bool) → (T b → f' (suc j) ≡ neg_ℤ (f (suc j))) → cond b (f' (suc j)) (pos 0) ≡ neg_ℤ (cond b (f (suc j)) (pos 0))
    go true k = k tt
    go false k = refl

before_negated : (f f' : ℕ → ℤ) (j : ℕ) → ((r : ℕ) → r < j → f' r ≡ neg_ℤ (f r)) → before f' j ≡ neg_ℤ (before f j)
unfolding before
before_negated f f' zero h = refl
before_negated f f' (suc j) h = h j (omega arith)

after_mirrored : (m : ℕ) (f f' : ℕ → ℤ) → ((i i' : ℕ) → suc (i + i') ≡ m → f' i ≡ f i') → (i i' : ℕ) → suc (i + i') ≡ m → after m f' i ≡ before f i'
unfolding after before
after_mirrored m f f' h i zero e = wall (suc i) m _ (omega arith)
after_mirrored m f f' h i (suc k) e = inside (suc i) m _ (omega arith) ∙ h (suc i) k (omega arith)

before_mirrored : (m : ℕ) (f f' : ℕ → ℤ) → ((i i' : ℕ) → suc (i + i') ≡ m → f' i ≡ f i') → (i i' : ℕ) → suc (i + i') ≡ m → before f' i ≡ after m f i'
unfolding after before
before_mirrored m f f' h zero i' e = sym (wall (suc i') m _ (omega arith))
before_mirrored m f f' h (suc k) i' e = h k (suc i') (omega arith) ∙ sym (inside (suc i') m _ (omega arith))

module _ (c : Card) (w w' : Water) (𝓜 : Mirror c w w') where
  east_transfers : (i i' j : ℕ) → i + i' ≡ c.columns → j < c.rows → east_transfer c w' i j ≡ neg_ℤ (east_transfer c w i' j)
  unfolding east_transfer
  east_transfers i i' j e h =
      walled_mirror c.columns _ _ (λ k k' q.
      rw (𝓜.height k (suc k') j (omega arith) h, 𝓜.height (suc k) k' j (omega arith) h, 𝓜.east (suc k) (suc k') j (omega arith) h)
      (transfer-turned c.dt c.dx (w.height k' j) (w.height (suc k') j) (w.east (suc k') j)))
      i i' e

  north_transfers : (i i' j : ℕ) → suc (i + i') ≡ c.columns → north_transfer c w' i j ≡ north_transfer c w i' j
  unfolding north_transfer
  north_transfers i i' j e =
      walled_same c.rows _ _ (λ k l. rw (𝓜.height i i' k e (omega arith), 𝓜.height i i' (suc k) e l, 𝓜.north i i' (suc k) e (omega arith)))
      j

  pub new_heights : (i i' j : ℕ) → suc (i + i') ≡ c.columns → j < c.rows → new_height c w' i j ≡ new_height c w i' j
  unfolding new_height
  new_heights i i' j e h =
      rw (
        𝓜.height i i' j e h,
        east_transfers i (suc i') j (omega arith) h,
        east_transfers (suc i) i' j (omega arith) h,
        north_transfers i i' j e,
        north_transfers i i' (suc j) e,
      )
      (simp sums)

  pub limits : (i i' j : ℕ) → suc (i + i') ≡ c.columns → j < c.rows → within_limit c w' i j ≡ within_limit c w i' j
  unfolding within_limit
  limits i i' j e h =
      rw (𝓜.east i (suc i') j (omega arith) h, 𝓜.east (suc i) i' j (omega arith) h, 𝓜.north i i' j e (omega arith), 𝓜.north i i' (suc j) e h)
      (rw (backward-neg (w.east (suc i') j), forward-neg (w.east i' j), add_comm (forward (w.east (suc i') j)) (backward (w.east i' j))))

  module _ (g g' : Field) (𝓖 : MirrorField c.columns c.rows g g') where
    -- K of the one is L of the other
    east_faces : (i i' j : ℕ) → suc (suc (i + i')) ≡ c.columns → j < c.rows → east_face c g' w' i j ≡ end_for_end (east_face c g w i' j)
    unfolding east_face end_for_end
    east_faces i i' j e h = λ x. record {
      old_k = 𝓜.height i (suc i') j (omega arith) h x;
      old_l = 𝓜.height (suc i) i' j (omega arith) h x;
      new_k = new_heights i (suc i') j (omega arith) h x;
      new_l = new_heights (suc i) i' j (omega arith) h x;
      ground_k = 𝓖.same i (suc i') j (omega arith) h x;
      ground_l = 𝓖.same (suc i) i' j (omega arith) h x;
      own = east_transfers (suc i) (suc i') j (omega arith) h x;
      ahead = east_transfers (suc (suc i)) i' j (omega arith) h x;
      behind = east_transfers i (suc (suc i')) j (omega arith) h x;
      above_k = north_transfers i (suc i') (suc j) (omega arith) x;
      above_l = north_transfers (suc i) i' (suc j) (omega arith) x;
      below_k = north_transfers i (suc i') j (omega arith) x;
      below_l = north_transfers (suc i) i' j (omega arith) x;
      u = 𝓜.east (suc i) (suc i') j (omega arith) h x;
      u_ahead = 𝓜.east (suc (suc i)) i' j (omega arith) h x;
      u_behind = 𝓜.east i (suc (suc i')) j (omega arith) h x;
      u_above = after_negated c.rows (λ r. w.east (suc i') r) (λ r. w'.east (suc i) r) j (λ l. 𝓜.east (suc i) (suc i') (suc j) (omega arith) l) x;
      u_below = before_negated (λ r. w.east (suc i') r) (λ r. w'.east (suc i) r) j (λ r l. 𝓜.east (suc i) (suc i') r (omega arith) (omega arith)) x;
    }

    -- its sides change places
    north_faces : (i i' j : ℕ) → suc (i + i') ≡ c.columns → suc j < c.rows → north_face c g' w' i j ≡ side_for_side (north_face c g w i' j)
    unfolding north_face side_for_side
    north_faces i i' j e h = λ x. record {
      old_k = 𝓜.height i i' j e (omega arith) x;
      old_l = 𝓜.height i i' (suc j) e h x;
      new_k = new_heights i i' j e (omega arith) x;
      new_l = new_heights i i' (suc j) e h x;
      ground_k = 𝓖.same i i' j e (omega arith) x;
      ground_l = 𝓖.same i i' (suc j) e h x;
      own = north_transfers i i' (suc j) e x;
      ahead = north_transfers i i' (suc (suc j)) e x;
      behind = north_transfers i i' j e x;
      above_k = east_transfers (suc i) i' j (omega arith) (omega arith) x;
      above_l = east_transfers (suc i) i' (suc j) (omega arith) h x;
      below_k = east_transfers i (suc i') j (omega arith) (omega arith) x;
      below_l = east_transfers i (suc i') (suc j) (omega arith) h x;
      u = 𝓜.north i i' (suc j) e (omega arith) x;
      u_ahead = 𝓜.north i i' (suc (suc j)) e h x;
      u_behind = 𝓜.north i i' j e (omega arith) x;
      u_above = after_mirrored c.columns (λ r. w.north r (suc j)) (λ r. w'.north r (suc j)) (λ a b q. 𝓜.north a b (suc j) q (omega arith)) i i' e x;
      u_below = before_mirrored c.columns (λ r. w.north r (suc j)) (λ r. w'.north r (suc j)) (λ a b q. 𝓜.north a b (suc j) q (omega arith)) i i' e x;
    }

    module _ (rule : Rule) (fair : Fair rule) where
      pub new_easts : (i i' j : ℕ) → i + i' ≡ c.columns → j < c.rows → new_east rule c g' w' i j ≡ neg_ℤ (new_east rule c g w i' j)
      unfolding new_east
      new_easts i i' j e h =
          walled_mirror c.columns _ _ (λ k k' q. rw (east_faces k k' j q h) (fair.by_ends (east_face c g w k' j) c.dt c.dx))
          i i' e

      pub new_norths : (i i' j : ℕ) → suc (i + i') ≡ c.columns → new_north rule c g' w' i j ≡ new_north rule c g w i' j
      unfolding new_north
      new_norths i i' j e =
          walled_same c.rows _ _ (λ k l. rw (north_faces i i' k e l) (fair.by_sides (north_face c g w i' k) c.dt c.dy))
          j

      pub next_mirror : Mirror c (next rule c g w) (next rule c g' w')
      unfolding next
      next_mirror = record { height = new_heights; east = new_easts; north = λ i i' j e h. new_norths i i' j e }
