-- What the state of a sound site gives to a function that reads it: places that lie in it, and numbers in their ranges.
use mathlib.Core.Path.{◌≡◌, sym, subst}
use mathlib.Core.List.{List}
use Prim.Native.Nat.{ℕ, ◌≤◌, ◌<◌, ◌^◌}
use native.Mathlib.Omega.{arith}
use lib.IntN.{ℤ, pos, negsuc, nat_abs}
use lib.Signed.{le_z, mag}
use lib.Dec.{T, le→leb}
use mir.Val.{to_z, of_z}
use mir.Syntax.{w32}
use Rattle.rules.specs.declared.Card.{Card}
use Rattle.rules.specs.Site.{read_state, heights_fit}
use Rattle.laws.specs.Sizes.{Within}
use Rattle.laws.specs.Signed.{word_is}
use Rattle.laws.specs.Tests.{to_T}
use Rattle.laws.specs.Facts.{Fits, sound_depths, sound_facts}
use Rattle.laws.specs.Bounded as bounded
use Rattle.layout.specs.declared.ways.Way.{Way}
use Rattle.layout.specs.declared.ways.Way.TheVariants.{East, North}
use Rattle.layout.specs.Places.{HeightPlace, FaceIn, FacePlace}
use Rattle.transfers.specs.Known.{SoundState, Limited}
use Rattle.layout.specs.Ways.{wide, high, side, speeds, transfers}
use Rattle.face.specs.Ranges.{Height, Speed, Time, Side}

-- a word that a call returned is in its range where the number that it stands for is
pub within_word : {n : ℕ} (z : ℤ) {x : ℤ} → mag z < 2 ^ 31 → z ≡ x → Within n x → Within n (to_z w32 (of_z w32 z))
within_word {n} z h e b = subst (λ (y : ℤ). Within n y) (sym (word_is z h e)) b

pub height_word : (z : ℤ) {x : ℤ} → mag z < 2 ^ 31 → z ≡ x → Height x → Height (to_z w32 (of_z w32 z))
height_word z h e b = subst Height (sym (word_is z h e)) b

at_most : (z : ℤ) (n : ℕ) → T (le_z (pos 0) z) → nat_abs z ≤ n → T (le_z z (pos n))
at_most (pos k) n t h = le→leb k n h
at_most (negsuc k) n t h = absurd t

module _ {c : Card} {s : List ℤ} (sound : SoundState c s) where
  pub facts : Fits c sound.land s
  facts = sound_facts c sound.land s sound.site

  -- ---- places

  module _ {i j : ℕ} where
    pub height_place : i < c.columns → j < c.rows → HeightPlace c s i j
    height_place hi hj = record { long = facts.lengths.state; column = hi; row = hj }

    pub face_place : {way : Way} → FaceIn c way i j → FacePlace c s way i j
    face_place f = record { card = facts.card; long = facts.lengths.state; face = f }

  -- ---- numbers

  pub height_fits_lem : (i j : ℕ) → i < c.columns → j < c.rows → Height ((read_state c s).height i j)
  height_fits_lem i j hi hj =
      let low = facts.height_low_at i j hi hj in
      record { low = low; high = at_most ((read_state c s).height i j) 50000000 low (facts.height_high_at i j hi hj) }

  pub height_within : (i j : ℕ) → i < c.columns → j < c.rows → Within 50000000 ((read_state c s).height i j)
  height_within i j hi hj = record { size = facts.height_high_at i j hi hj }

  pub speed_fits_lem : (way : Way) (i j : ℕ) → Speed (speeds (read_state c s) way i j)
  unfolding speeds
  speed_fits_lem East i j = record { size = facts.east_at i j }
  speed_fits_lem North i j = record { size = facts.north_at i j }

  -- ---- the card

  pub time : Time c.dt
  time = record { low = facts.card.dt_low; high = facts.card.dt_high }

  pub side_fits : (way : Way) → Side (side c way)
  unfolding side
  side_fits East = record { low = facts.card.dx_low; high = facts.card.dx_high }
  side_fits North = record { low = facts.card.dy_low; high = facts.card.dy_high }

  pub depths : T (heights_fit c (read_state c s))
  depths = sound_depths c sound.land s sound.site

-- ---- under the step limit: what crosses a face is at most a height

module _ {c : Card} {s : List ℤ} (limited : Limited c s) where
  pub crossed : (way : Way) (i j : ℕ) → FaceIn c way i j → Within 50000000 (transfers c (read_state c s) way i j)
  unfolding wide high transfers
  crossed East i j f =
      let card = (facts limited.sound).card in
      bounded.east_within c (read_state c s) (omega arith) (omega arith) (depths limited.sound) (to_T limited.limit) i j f.row
  crossed North i j f =
      let card = (facts limited.sound).card in
      bounded.north_within c (read_state c s) (omega arith) (omega arith) (depths limited.sound) (to_T limited.limit) i j f.column
