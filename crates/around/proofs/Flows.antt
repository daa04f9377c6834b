-- What stands in the lists of a site with its tide: each cell and each face has its place in them, and the tide has what crossed the faces and the new heights.
use Prim.Native.Nat.{ℕ, ◌+◌, ◌*◌, ◌≤◌, ◌<◌}
use mathlib.Core.Path.{◌≡◌, ◌∙◌, refl, sym}
use mathlib.Core.List.{List}
use native.Mathlib.Nat.{zero-add}
use native.Mathlib.Omega.{arith}
use lib.Arith.{digits_lt}
use lib.IntN.{ℤ, pos}
use lib.ListN.{length, get_or}
use Rattle.rules.specs.declared.Card.{Card}
use Rattle.rules.specs.Site.{read_ground, read_state}
use Rattle.rules.specs.Step.{new_height}
use Rattle.laws.specs.Places.{height_in, height_read as places_height_read}
use Rattle.laws.specs.Reading.{long_of, height_read, east_read, north_read}
use Rattle.transfers.proofs.Sites.{facts}
use Rattle.transfers.specs.Known.{SoundState}
use Rattle.transfers.specs.Tide.{tide}
use Rattle.layout.specs.declared.ways.Way.{Way}
use Rattle.layout.specs.declared.ways.Way.TheVariants.{East, North}
use Rattle.layout.specs.Ways.{wide, high, speeds, transfers}
use Rattle.layout.specs.Places.{FaceIn, FacePlace}
use Rattle.around.specs.Flowing.{Flowing}
use Rattle.layout.proofs.Pointing.{Cell}

pub ground_read : (c : Card) (g : List ℤ) (i j : ℕ) → get_or g (0 + (j * c.columns + i)) (pos 0) ≡ read_ground c g i j
unfolding read_ground
ground_read c g i j = rw zero-add

module _ {c : Card} {g s t : List ℤ} (f : Flowing c g s t) where
  abbrev pub sound_of : SoundState c s
  sound_of = record { land = g; site = f.sound }

  -- at a cell: its ground and its new height, and the places of these and of its old height
  module _ {i j : ℕ} (k : Cell c i j) where
    pub ground_in_lem : 0 + (j * c.columns + i) < length g
    ground_in_lem = omega (arith, (facts sound_of).lengths.land, digits_lt k.row k.column)

    pub state_in_lem : 0 + (j * c.columns + i) < length s
    state_in_lem = height_in c (facts sound_of).lengths.state k.column k.row

    pub tide_in : 0 + (j * c.columns + i) < length t
    tide_in = height_in c (long_of f.tide) k.column k.row

    pub ground_is : get_or g (0 + (j * c.columns + i)) (pos 0) ≡ read_ground c g i j
    ground_is = ground_read c g i j

    pub new_is : get_or t (0 + (j * c.columns + i)) (pos 0) ≡ new_height c (read_state c s) i j
    unfolding tide
    new_is = height_read f.tide i j k.column k.row (zero-add _)

    pub tide_height : (read_state c t).height i j ≡ new_height c (read_state c s) i j
    tide_height = sym (places_height_read c t i j) ∙ new_is

  -- at a face: what crossed it
  module _ {i j : ℕ} where
    pub in_tide : {way : Way} → FaceIn c way i j → FacePlace c t way i j
    in_tide p = record { card = (facts sound_of).card; long = long_of f.tide; face = p }

    pub crossed_is : (way : Way) → FaceIn c way i j → speeds (read_state c t) way i j ≡ transfers c (read_state c s) way i j
    unfolding wide high speeds transfers tide read_state
    crossed_is East p = let h : i ≤ c.columns = omega arith in east_read f.tide i j h p.row refl
    crossed_is North p = let h : j ≤ c.rows = omega arith in north_read f.tide i j p.column h refl
