-- Why still water stays. Where no face has a velocity nothing crosses a face, so that every height stays and the step limit is kept; and a face that rests gets
-- the velocity 0: between two wet cells of one surface nothing pulls, a dry cell beside a wet one is a bank, and over two dry ones there is no water.
use Rattle.std.specs.Prelude.{ℕ, suc, ◌≤◌, ◌<◌, ◌≡◌, refl, Bool, true, false, List, ℤ, T}
use Rattle.std.proofs.Common.{suc-le-suc, ◌∙◌, arith}
use Rattle.std.proofs.Math.Path.{sym}
use Rattle.std.proofs.Math.IntN.{pos}
use Rattle.std.specs.Int.Signed.{le_z}
use Rattle.rules.specs.declared.Card.{Card}
use Rattle.rules.specs.declared.Face.{Face}
use Rattle.rules.specs.Grid.{Field, all_at}
use Rattle.rules.specs.Site.{Water, check, read_ground, read_state, is_zero, height_fits, heights_fit, velocities_fit}
use Rattle.rules.specs.Step.{Rule, new_height, east_face, north_face, surface_k, surface_l, rise, is_bank, dry_bank, new_velocity, new_east, new_north, next, within_limit, limit_kept, new_heights_fit, new_velocities_fit, answer, number, step_number_by, next_state_by}
use Rattle.laws.specs.Tests.{true_of, to_T, and_left, and_right}
use Rattle.laws.specs.Grids.{all_at_at, all_at_intro}
use Rattle.laws.specs.Numbers.{zero_is}
use Rattle.laws.specs.States.{Alike, write_same, write_read}
use Rattle.laws.specs.Walls.{everywhere}
use Rattle.laws.specs.Keeps.{faces_alike}
use Rattle.laws.specs.Still.{StillCell, limit_still, height_still, NothingCrosses, carries_nothing, east_none, north_none}
use Rattle.laws.specs.Velocity.{without_water, on_a_bank, nothing_pulls}
use Rattle.laws.specs.Facts.{Sound, length_facts, sound_depths, sound_speeds, check_sound}
use Rattle.promises.specs.InnerFaces.{EveryInner, inner_at}
use Rattle.promises.specs.AtRest.{rests_between, rests, east_rests, north_rests, faces_rest, east_still, north_still, all_still, still_water}

-- ---- One face: what a rule for new velocities owes one that rests and around which nothing crosses; document 02's rule gives it

abbrev pub LeavesAtRest : Rule → Type 0
LeavesAtRest rule = (dt d : ℕ) (f : Face) → NothingCrosses f → T (rests f.new_k f.ground_k f.new_l f.ground_l) → rule dt d f ≡ pos 0

pub rested : LeavesAtRest new_velocity
unfolding rests_between rise dry_bank is_bank
rested dt d f none = go (is_zero f.new_k) (is_zero f.new_l) refl refl
  where
    go : (dry_k dry_l : Bool) → is_zero f.new_k ≡ dry_k → is_zero f.new_l ≡ dry_l → T (rests_between dry_k dry_l f.new_k f.ground_k f.new_l f.ground_l) → new_velocity dt d f ≡ pos 0
    go false false k l t = nothing_pulls rise dt d f (carries_nothing none) (zero_is (rise f) t)
    go true false k l t = on_a_bank rise dt d f (rw (k, true_of (le_z (surface_l f) f.ground_k) t))
    go false true k l t = on_a_bank rise dt d f (rw (k, l, true_of (le_z (surface_k f) f.ground_l) t))
    go true true k l t = without_water rise dt d f (rw (zero_is f.new_k (to_T k), zero_is f.new_l (to_T l)))

-- ---- A site that passes the first three checks and whose water is still, by any such rule

module _ (rule : Rule) (owes : LeavesAtRest rule) (c : Card) (g s : List ℤ) (passes : check c g s ≡ 0) (still : still_water c g s ≡ true) where
  abbrev z : Field
  z = read_ground c g

  abbrev w : Water
  w = read_state c s

  sound : Sound c g s
  sound = check_sound c g s passes

  -- the two halves of the condition
  unmoved : T (all_still c w)
  unfolding still_water
  unmoved = and_left (all_still c w) (faces_rest c z w) (to_T still)

  resting : EveryInner c (λ i j. T (east_rests z w i j)) (λ i j. T (north_rests z w i j))
  unfolding still_water faces_rest
  resting = inner_at c (east_rests z w) (north_rests z w) (and_right (all_still c w) (faces_rest c z w) (to_T still))

  abbrev all_east : Bool
  all_east = all_at (suc c.columns) c.rows (east_still w)

  abbrev all_north : Bool
  all_north = all_at c.columns (suc c.rows) (north_still w)

  east_0 : (i j : ℕ) → i ≤ c.columns → j < c.rows → w.east i j ≡ pos 0
  unfolding all_still
  east_0 i j hi hj = zero_is (w.east i j) (all_at_at (suc c.columns) c.rows (east_still w) (and_left all_east all_north unmoved) i j (suc-le-suc hi) hj)

  north_0 : (i j : ℕ) → i < c.columns → j ≤ c.rows → w.north i j ≡ pos 0
  unfolding all_still
  north_0 i j hi hj = zero_is (w.north i j) (all_at_at c.columns (suc c.rows) (north_still w) (and_right all_east all_north unmoved) i j hi (suc-le-suc hj))

  -- each cell keeps the limit and its height
  cell : (i j : ℕ) → i < c.columns → j < c.rows → StillCell w i j
  cell i j hi hj = record {
    west = east_0 i j (omega arith) hj;
    east = east_0 (suc i) j hi hj;
    south = north_0 i j hi (omega arith);
    north = north_0 i (suc j) hi hj;
  }

  same : (i j : ℕ) → i < c.columns → j < c.rows → new_height c w i j ≡ w.height i j
  same i j hi hj = height_still c (cell i j hi hj)

  -- each inner face rests, and gets the velocity 0
  rule_east : (i j : ℕ) → suc i < c.columns → j < c.rows → rule c.dt c.dx (east_face c z w i j) ≡ pos 0
  unfolding east_face
  rule_east i j hi hj =
      owes c.dt c.dx (east_face c z w i j) (east_none c z (cell i j (omega arith) hj) (cell (suc i) j hi hj))
      (rw (same i j (omega arith) hj, same (suc i) j hi hj) (resting.east i j hi hj))

  rule_north : (i j : ℕ) → i < c.columns → suc j < c.rows → rule c.dt c.dy (north_face c z w i j) ≡ pos 0
  unfolding north_face
  rule_north i j hi hj =
      owes c.dt c.dy (north_face c z w i j) (north_none c z (cell i j hi (omega arith)) (cell i (suc j) hi hj))
      (rw (same i j hi (omega arith), same i (suc j) hi hj) (resting.north i j hi hj))

  -- and walls have it
  new_east_lem : (i j : ℕ) → j < c.rows → new_east rule c z w i j ≡ pos 0
  unfolding new_east
  new_east_lem i j hj = everywhere c.columns _ (λ k v. v ≡ pos 0) (λ k. refl) (λ k h. rule_east k j h hj) i

  new_north_lem : (i j : ℕ) → i < c.columns → new_north rule c z w i j ≡ pos 0
  unfolding new_north
  new_north_lem i j hi = everywhere c.rows _ (λ k v. v ≡ pos 0) (λ k. refl) (λ k h. rule_north i k hi h) j

  -- so that the next state is the state
  alike : Alike c (next rule c z w) w
  unfolding next
  alike = record {
    height = same;
    east = λ i j hi hj. new_east_lem i j hj ∙ sym (east_0 i j hi hj);
    north = λ i j hi hj. new_north_lem i j hi ∙ sym (north_0 i j hi hj);
  }

  pub next_by : next_state_by rule c g s ≡ s
  unfolding next_state_by
  next_by = write_same c (next rule c z w) w alike ∙ write_read c s (length_facts c g s sound.lengths).state

  -- and the step is accepted
  limit : limit_kept c w ≡ true
  unfolding limit_kept
  limit = true_of (all_at c.columns c.rows (within_limit c w)) (all_at_intro c.columns c.rows (within_limit c w) (λ i j hi hj. to_T (limit_still c (cell i j hi hj))))

  abbrev fits : ℕ → ℕ → Bool
  fits i j = le_z (new_height c w i j) (pos 50000000)

  heights : new_heights_fit c w ≡ true
  unfolding new_heights_fit heights_fit
  heights =
      true_of (all_at c.columns c.rows fits)
      (all_at_intro c.columns c.rows fits (λ i j hi hj.
      let h = w.height i j in
      rw (same i j hi hj)
      (and_right (le_z (pos 0) h) (le_z h (pos 50000000)) (all_at_at c.columns c.rows (λ i j. height_fits (w.height i j)) (sound_depths c g s sound) i j hi hj))))

  speeds : new_velocities_fit rule c z w ≡ true
  unfolding new_velocities_fit velocities_fit next
  speeds = faces_alike c (next rule c z w) w alike ∙ true_of (velocities_fit c w) (sound_speeds c g s sound)

  pub number_by : step_number_by rule c g s ≡ 0
  unfolding step_number_by number answer
  number_by = rw (limit, heights, speeds)
