-- What the tests of a step say in the order in which they are made, and each answer: its number, and the next state where the number is 0.
use mathlib.Core.Path.{◌≡◌, ◌∙◌, sym, ap}
use mathlib.Core.Bool.{Bool, true, false, not}
use mathlib.Core.List.{List, ◌++◌}
use Prim.Native.Nat.{◌*◌, ◌-◌}
use native.Mathlib.Nat.{suc-ne-zero}
use native.Mathlib.Omega.{arith}
use borrow.Author.Tests.{not-true, not-false}
use lib.IntN.{ℤ}
use lib.ListN.{length, take, drop}
use borrow.Rule.Slice.PartMut.{put_mid}
use Rattle.rules.specs.declared.Card.{Card}
use Rattle.rules.specs.Site.{read_ground, read_state, write_state}
use Rattle.rules.specs.Step.{next, limit_kept, new_heights_fit, Rule, new_velocities_fit, answer, number, step_number_by, next_state_by}
use Rattle.laws.specs.Reading.{Holds}
use Rattle.laws.specs.Grids.{length-grid}
use Rattle.laws.specs.Parts.{two_parts}
use Rattle.laws.specs.Behind.{front_heights}
use Rattle.laws.specs.Tested.{Filled}
use Rattle.velocities.specs.Velocities.{next_velocities}
use Rattle.laws.specs.Facts.{Sound}
use Rattle.transfers.specs.Tide.{tide, crossings, tide_fits}
use Rattle.transfers.specs.Known.{SoundState, Limited, TideRoom}
use Rattle.transfers.proofs.Sites.{facts}
use Rattle.heights.specs.Known.{MarkedState, Crossed}
use Rattle.heights.proofs.Tides.{tide_heights}
use Rattle.still.specs.Marks.{MarksRoom}
use Rattle.around.specs.Flowing.{Flowing}
use Rattle.advance.specs.Advance.{StepRoom, MarkedRoom, LimitedRoom, Advanced}

pub sound : {c : Card} {g s t n : List ℤ} → StepRoom c g s t n → SoundState c s
sound {g} room = record { land = g; site = room.sound }

-- room for the marks of a sound site, and what they are good for
pub marks_room : {c : Card} {s : List ℤ} → SoundState c s → {marks : List Bool} → length marks ≡ 128 → MarksRoom c s marks
marks_room sound {marks} e =
    let f = facts sound in
    record { card = f.card; long = f.lengths.state; room = omega (arith, e, f.card.rows_high) }

pub marked_state : {c : Card} {g s t n : List ℤ} {marks : List Bool} → MarkedRoom c g s marks t n → MarkedState c s marks
marked_state m = record { sound = sound m.room; marked = m.marked }

-- the look at the step limit
module _ {c : Card} {g s t n : List ℤ} {marks : List Bool} (marked : MarkedRoom c g s marks t n) {kept : Bool} (looked : kept ≡ limit_kept c (read_state c s)) where
  -- 4
  pub limit_broken : {rule : Rule} {m : List ℤ} → not kept ≡ true → Advanced rule c g s 4 m
  unfolding step_number_by number answer
  limit_broken b = let l : limit_kept c (read_state c s) ≡ false = sym looked ∙ not-true kept b in record { number = rw l; state = λ e. absurd (suc-ne-zero 3 e) }

  pub limited : not kept ≡ false → LimitedRoom c g s marks t n
  limited b =
      let r = marked.room in
      record { sound = r.sound; marked = marked.marked; limit = sym looked ∙ not-false kept b; tide = r.tide; next = r.next }

-- what crosses the faces, in a tide
module _ {c : Card} {g s t n : List ℤ} {marks : List Bool} (room : LimitedRoom c g s marks t n) where
  within : Limited c s
  within = record { sound = record { land = g; site = room.sound }; limit = room.limit }

  pub tide_room : TideRoom c s marks t
  tide_room = record { limited = within; marked = room.marked; long = room.tide }

  pub crossed : {t' : List ℤ} → length t' ≡ length t → drop (c.rows * c.columns) t' ≡ crossings c (read_state c s) → Crossed c s t'
  crossed long is = record { limited = within; long = long ∙ room.tide; crossed = is }

-- the new heights, in a tide
module _ {c : Card} {t : List ℤ} (s : List ℤ) (limit : limit_kept c (read_state c s) ≡ true) (holds : Holds c (tide c (read_state c s)) t) {fit : Bool} (looked : fit ≡ tide_fits c t) where
  fit_is : fit ≡ new_heights_fit c (read_state c s)
  fit_is = looked ∙ tide_heights s holds

  -- 5
  pub height_broken : not fit ≡ true → {rule : Rule} {g m : List ℤ} → Advanced rule c g s 5 m
  unfolding step_number_by number answer
  height_broken b =
      let h : new_heights_fit c (read_state c s) ≡ false = sym fit_is ∙ not-true fit b in
      record { number = rw (limit, h); state = λ e. absurd (suc-ne-zero 4 e) }

  pub flowing_of : not fit ≡ false → {g : List ℤ} → Sound c g s → Flowing c g s t
  flowing_of b sound = record { sound = sound; limit = limit; heights = sym fit_is ∙ not-false fit b; tide = holds }

-- the heights of the tide, and new velocities behind them, are the next state
pub whole : (rule : Rule) {c : Card} {g s t : List ℤ} (old : List ℤ) {first last : List ℤ} {fast : Bool} → Flowing c g s t → first ≡ take (c.rows * c.columns) t
    → Filled (new_velocities_fit rule c (read_ground c g) (read_state c s)) (next_velocities rule c g s) fast last
    → Filled (new_velocities_fit rule c (read_ground c g) (read_state c s)) (next_state_by rule c g s) fast
    (put_mid (c.rows * c.columns) (length (first ++ drop (c.rows * c.columns) old) - c.rows * c.columns) (first ++ drop (c.rows * c.columns) old) last)
unfolding next_state_by next write_state tide next_velocities
whole rule {c = c} old flowing copied faces =
    let heights = copied ∙ ap (take (c.rows * c.columns)) flowing.tide.is ∙ front_heights c _ in
    record {
      every_one = faces.every_one;
      is = λ e. two_parts (c.rows * c.columns) old heights (faces.is e) (length-grid _ _ _);
    }

-- the new velocities
module _ {rule : Rule} {c : Card} {g s t : List ℤ} (flowing : Flowing c g s t) {fast : Bool} {m : List ℤ} (filled : Filled (new_velocities_fit rule c (read_ground c g) (read_state c s)) (next_state_by rule c g s) fast m) where
  -- 7
  pub speed_broken : fast ≡ false → Advanced rule c g s 7 m
  unfolding step_number_by number answer
  speed_broken b =
      let v : new_velocities_fit rule c (read_ground c g) (read_state c s) ≡ false = sym filled.every_one ∙ b in
      record { number = rw (flowing.limit, flowing.heights, v); state = λ e. absurd (suc-ne-zero 6 e) }

  -- 0
  pub all_kept : fast ≡ true → Advanced rule c g s 0 m
  unfolding step_number_by number answer
  all_kept b =
      let v : new_velocities_fit rule c (read_ground c g) (read_state c s) ≡ true = sym filled.every_one ∙ b in
      record { number = rw (flowing.limit, flowing.heights, v); state = λ e. filled.is b }
