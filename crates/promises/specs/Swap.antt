-- Two waters of which one is the other with its axes swapped: so are their next states.
use Rattle.std.specs.Prelude.{ℕ, zero, suc, ◌+◌, ◌*◌, ◌≤◌, ◌<◌, ◌≡◌, refl, ℤ, ltb}
use Rattle.std.proofs.Math.Nat.{add_comm, mul_comm}
use Rattle.std.proofs.Common.{arith, ltb→lt}
use Rattle.rules.specs.declared.Card.{Card}
use Rattle.rules.specs.Grid.{Field}
use Rattle.rules.specs.Site.{Water}
use Rattle.rules.specs.Step.{Rule, east_transfer, north_transfer, forward, backward, within_limit, new_height, after, before, east_face, north_face, new_east, new_north, next}
use Rattle.rules.specs.Turn.{swap_card}
use Rattle.laws.specs.Tests.{cond_cong}
use Rattle.laws.specs.Numbers.{sums}
use Rattle.laws.specs.Walls.{walled_same}

pub record SwappedField (m n : ℕ) (f f' : Field) : Type 0 where
  pub same : (i j : ℕ) → i < n → j < m → f' i j ≡ f j i

pub record Swapped (c : Card) (w w' : Water) : Type 0 where
  pub height : (i j : ℕ) → i < c.rows → j < c.columns → w'.height i j ≡ w.height j i
  pub east : (i j : ℕ) → i ≤ c.rows → j < c.columns → w'.east i j ≡ w.north j i
  pub north : (i j : ℕ) → i < c.rows → j ≤ c.columns → w'.north i j ≡ w.east j i

after_same : (n : ℕ) (f f' : ℕ → ℤ) (j : ℕ) → (suc j < n → f' (suc j) ≡ f (suc j)) → after n f' j ≡ after n f j
unfolding after
after_same n f f' j h = cond_cong (ltb (suc j) n) _ _ _ (λ t. h (ltb→lt (suc j) n t))

before_same : (f f' : ℕ → ℤ) (j : ℕ) → ((r : ℕ) → r < j → f' r ≡ f r) → before f' j ≡ before f j
unfolding before
before_same f f' zero h = refl
before_same f f' (suc j) h = h j (omega arith)

module _ (c : Card) (w w' : Water) (𝓢 : Swapped c w w') where
  east_transfers : (i j : ℕ) → j < c.columns → east_transfer (swap_card c) w' i j ≡ north_transfer c w j i
  unfolding east_transfer north_transfer
  east_transfers i j hj =
      walled_same c.rows _ _ (λ k l. rw (𝓢.height k j (omega arith) hj, 𝓢.height (suc k) j l hj, 𝓢.east (suc k) j (omega arith) hj))
      i

  north_transfers : (i j : ℕ) → i < c.rows → north_transfer (swap_card c) w' i j ≡ east_transfer c w j i
  unfolding east_transfer north_transfer
  north_transfers i j hi =
      walled_same c.columns _ _ (λ k l. rw (𝓢.height i k hi (omega arith), 𝓢.height i (suc k) hi l, 𝓢.north i (suc k) hi (omega arith)))
      j

  pub new_heights : (i j : ℕ) → i < c.rows → j < c.columns → new_height (swap_card c) w' i j ≡ new_height c w j i
  unfolding new_height
  new_heights i j hi hj =
      rw (
        𝓢.height i j hi hj,
        east_transfers i j hj,
        east_transfers (suc i) j hj,
        north_transfers i j hi,
        north_transfers i (suc j) hi,
      )
      (simp sums)

  pub limits : (i j : ℕ) → i < c.rows → j < c.columns → within_limit (swap_card c) w' i j ≡ within_limit c w j i
  unfolding within_limit
  limits i j hi hj =
      rw (𝓢.east i j (omega arith) hj, 𝓢.east (suc i) j hi hj, 𝓢.north i j hi (omega arith), 𝓢.north i (suc j) hi hj)
      (rw (
        mul_comm c.dy c.dx,
        add_comm ((backward (w.north j i) + forward (w.north j (suc i))) * c.dx) ((backward (w.east j i) + forward (w.east (suc j) i)) * c.dy),
      ))

  module _ (g g' : Field) (𝓖 : SwappedField c.columns c.rows g g') where
    east_faces : (i j : ℕ) → suc i < c.rows → j < c.columns → east_face (swap_card c) g' w' i j ≡ north_face c g w j i
    unfolding east_face north_face
    east_faces i j hi hj = λ x. record {
      old_k = 𝓢.height i j (omega arith) hj x;
      old_l = 𝓢.height (suc i) j hi hj x;
      new_k = new_heights i j (omega arith) hj x;
      new_l = new_heights (suc i) j hi hj x;
      ground_k = 𝓖.same i j (omega arith) hj x;
      ground_l = 𝓖.same (suc i) j hi hj x;
      own = east_transfers (suc i) j hj x;
      ahead = east_transfers (suc (suc i)) j hj x;
      behind = east_transfers i j hj x;
      above_k = north_transfers i (suc j) (omega arith) x;
      above_l = north_transfers (suc i) (suc j) hi x;
      below_k = north_transfers i j (omega arith) x;
      below_l = north_transfers (suc i) j hi x;
      u = 𝓢.east (suc i) j (omega arith) hj x;
      u_ahead = 𝓢.east (suc (suc i)) j hi hj x;
      u_behind = 𝓢.east i j (omega arith) hj x;
      u_above = after_same c.columns (λ r. w.north r (suc i)) (λ r. w'.east (suc i) r) j (λ l. 𝓢.east (suc i) (suc j) (omega arith) l) x;
      u_below = before_same (λ r. w.north r (suc i)) (λ r. w'.east (suc i) r) j (λ r l. 𝓢.east (suc i) r (omega arith) (omega arith)) x;
    }

    north_faces : (i j : ℕ) → i < c.rows → suc j < c.columns → north_face (swap_card c) g' w' i j ≡ east_face c g w j i
    unfolding east_face north_face
    north_faces i j hi hj = λ x. record {
      old_k = 𝓢.height i j hi (omega arith) x;
      old_l = 𝓢.height i (suc j) hi hj x;
      new_k = new_heights i j hi (omega arith) x;
      new_l = new_heights i (suc j) hi hj x;
      ground_k = 𝓖.same i j hi (omega arith) x;
      ground_l = 𝓖.same i (suc j) hi hj x;
      own = north_transfers i (suc j) hi x;
      ahead = north_transfers i (suc (suc j)) hi x;
      behind = north_transfers i j hi x;
      above_k = east_transfers (suc i) j (omega arith) x;
      above_l = east_transfers (suc i) (suc j) hj x;
      below_k = east_transfers i j (omega arith) x;
      below_l = east_transfers i (suc j) hj x;
      u = 𝓢.north i (suc j) hi (omega arith) x;
      u_ahead = 𝓢.north i (suc (suc j)) hi hj x;
      u_behind = 𝓢.north i j hi (omega arith) x;
      u_above = after_same c.rows (λ r. w.east (suc j) r) (λ r. w'.north r (suc j)) i (λ l. 𝓢.north (suc i) (suc j) l (omega arith)) x;
      u_below = before_same (λ r. w.east (suc j) r) (λ r. w'.north r (suc j)) i (λ r l. 𝓢.north r (suc j) (omega arith) (omega arith)) x;
    }

    module _ (rule : Rule) where
      pub new_easts : (i j : ℕ) → j < c.columns → new_east rule (swap_card c) g' w' i j ≡ new_north rule c g w j i
      unfolding new_east new_north
      new_easts i j hj = walled_same c.rows _ _ (λ k l. rw (east_faces k j l hj)) i

      pub new_norths : (i j : ℕ) → i < c.rows → new_north rule (swap_card c) g' w' i j ≡ new_east rule c g w j i
      unfolding new_east new_north
      new_norths i j hi = walled_same c.columns _ _ (λ k l. rw (north_faces i k hi l)) j

      pub next_swapped : Swapped c (next rule c g w) (next rule (swap_card c) g' w')
      unfolding next
      next_swapped = record { height = new_heights; east = λ i j hi hj. new_easts i j hj; north = λ i j hi hj. new_norths i j hi }
