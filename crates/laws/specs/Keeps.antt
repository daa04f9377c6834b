-- A site that passes the first three checks, and whose step is accepted, passes them again.
use Rattle.std.specs.Prelude.{suc, ◌<◌, ◌≡◌, true, List, ℤ, pos, length, T, eqb}
use Rattle.std.proofs.Math.Path.{ap₂}
use Rattle.std.proofs.Common.{◌∙◌, le_refl, arith}
use Rattle.std.proofs.Math.Bool.{◌&&◌}
use Rattle.std.specs.Int.Signed.{le_z}
use Rattle.std.proofs.Math.Dec.{eqb_refl}
use Rattle.rules.specs.declared.Card.{Card}
use Rattle.rules.specs.Grid.{Field, all}
use Rattle.rules.specs.Site.{Water, cells, state_length, read_ground, read_state, write_state, is_zero, grounds_fit, heights_fit, velocities_fit, walls_still, values_fit, lengths_fit, check}
use Rattle.rules.specs.Step.{Rule, walled, new_height, east_face, north_face, new_velocity, new_east, new_north, next, limit_kept, new_heights_fit, new_velocities_fit, number, step_number_by, next_state_by, step_number, next_state}
use Rattle.laws.specs.Tests.{true_of, to_T, and_both, four_of, of_four}
use Rattle.laws.specs.Grids.{all_intro, all_at_at, all_at_intro, all_same, all_at_same}
use Rattle.laws.specs.States.{Alike, height_back, east_back, north_back, length_state}
use Rattle.laws.specs.Checks.{accepted}
use Rattle.laws.specs.Facts.{Sound, card_facts, length_facts, check_sound, sound_check}
use Rattle.laws.specs.Bounded.{new_low}
use Rattle.laws.specs.Walls.{on_wall}

-- ---- the values of the next state

module _ (c : Card) (w v : Water) (𝓐 : Alike c w v) where
  depths_alike : heights_fit c w ≡ heights_fit c v
  unfolding heights_fit
  depths_alike = all_at_same c.columns c.rows _ _ (λ i j hi hj. rw (𝓐.height i j hi hj))

  pub faces_alike : velocities_fit c w ≡ velocities_fit c v
  unfolding velocities_fit
  faces_alike =
      ap₂ ◌&&◌
      (all_at_same (suc c.columns) c.rows _ _ (λ i j hi hj. rw (𝓐.east i j (omega arith) hj)))
      (all_at_same c.columns (suc c.rows) _ _ (λ i j hi hj. rw (𝓐.north i j hi (omega arith))))

  walls_alike : walls_still c w ≡ walls_still c v
  unfolding walls_still
  walls_alike =
      ap₂ ◌&&◌
      (all_same c.rows _ _ (λ j hj. rw (𝓐.east 0 j (omega arith) hj, 𝓐.east c.columns j (omega arith) hj)))
      (all_same c.columns _ _ (λ i hi. rw (𝓐.north i 0 hi (omega arith), 𝓐.north i c.rows hi (omega arith))))

  values_alike : (g : Field) → values_fit c g w ≡ values_fit c g v
  unfolding values_fit
  values_alike g = rw (depths_alike, faces_alike, walls_alike)

module _ (rule : Rule) (c : Card) (g : Field) (w : Water) where
  walls_next : T (walls_still c (next rule c g w))
  unfolding walls_still next new_east new_north walled
  walls_next =
      and_both (all c.rows (λ j. is_zero (new_east rule c g w 0 j) && is_zero (new_east rule c g w c.columns j))) (all c.columns (λ i. is_zero (new_north rule c g w i 0) && is_zero (new_north rule c g w i c.rows)))
      (all_intro c.rows _ (λ j hj. rw (on_wall c.columns (λ k. rule c.dt c.dx (east_face c g w k j)) c.columns (le_refl c.columns)) tt))
      (all_intro c.columns _ (λ i hi. rw (on_wall c.rows (λ k. rule c.dt c.dy (north_face c g w i k)) c.rows (le_refl c.rows)) tt))

  depths_next : 0 < c.dx → 0 < c.dy → T (heights_fit c w) → T (limit_kept c w) → T (new_heights_fit c w) → T (heights_fit c (next rule c g w))
  unfolding heights_fit next new_heights_fit
  depths_next hx hy d l h =
      all_at_intro c.columns c.rows _ (λ i j hi hj.
      and_both (le_z (pos 0) (new_height c w i j)) (le_z (new_height c w i j) (pos 50000000))
      (new_low c w hx hy d l i j hi hj)
      (all_at_at c.columns c.rows _ h i j hi hj))

  next_values : 0 < c.dx → 0 < c.dy → T (values_fit c g w) → number rule c g w ≡ 0 → T (values_fit c g (next rule c g w))
  unfolding values_fit velocities_fit next number new_velocities_fit
  next_values hx hy t e =
      let a = accepted (limit_kept c w) (new_heights_fit c w) (new_velocities_fit rule c g w) e in
      let f = four_of (grounds_fit c g) (heights_fit c w) (velocities_fit c w) (walls_still c w) t in
      of_four (grounds_fit c g) (heights_fit c (next rule c g w)) (velocities_fit c (next rule c g w)) (walls_still c (next rule c g w)) (record {
        one = f.one;
        two = depths_next hx hy f.two a.limit a.heights;
        three = a.speeds;
        four = walls_next;
      })

-- ---- a state that is written has the length that refusal 2 asks for

pub written_fits : (c : Card) (g : List ℤ) (w : Water) → length g ≡ cells c → lengths_fit c g (write_state c w) ≡ true
unfolding lengths_fit
written_fits c g w e =
    rw (e, length_state c w)
    (rw (true_of (eqb (cells c) (cells c)) (eqb_refl (cells c))) (true_of (eqb (state_length c) (state_length c)) (eqb_refl (state_length c))))

-- ---- the checks

pub keeps_sound_by : (rule : Rule) (c : Card) (g s : List ℤ) → Sound c g s → step_number_by rule c g s ≡ 0 → Sound c g (next_state_by rule c g s)
unfolding step_number_by next_state_by
keeps_sound_by rule c g s sound k =
    let n = next rule c (read_ground c g) (read_state c s) in
    let card = card_facts c sound.card in
    record {
      card = sound.card;
      lengths = written_fits c g n (length_facts c g s sound.lengths).land;
      values =
          values_alike c (read_state c (write_state c n)) n (record { height = height_back c n; east = east_back c n; north = north_back c n }) (read_ground c g)
          ∙ true_of _ (next_values rule c (read_ground c g) (read_state c s) (omega arith) (omega arith) (to_T sound.values) k);
    }

pub keeps_sound : (c : Card) (g s : List ℤ) → Sound c g s → step_number c g s ≡ 0 → Sound c g (next_state c g s)
keeps_sound = keeps_sound_by new_velocity

pub keeps : (c : Card) (g s : List ℤ) → check c g s ≡ 0 → step_number c g s ≡ 0 → check c g (next_state c g s) ≡ 0
keeps c g s e k = sound_check c g (next_state c g s) (keeps_sound c g s (check_sound c g s e) k)
