-- What is known of an inner face once its levels are gathered, and once all the numbers around it are: that they are in their ranges, and what its new velocity is.
use Prim.Native.Nat.{ℕ}
use mathlib.Core.Path.{◌≡◌, ◌∙◌, sym, ap}
use mathlib.Core.Bool.{Bool, true, false}
use mathlib.Core.List.{List}
use lib.IntN.{ℤ, pos, ◌-ℤ◌}
use Rattle.rules.specs.declared.Card.{Card}
use Rattle.rules.specs.declared.Face.{Face}
use Rattle.rules.specs.Site.{is_zero, read_ground, read_state}
use Rattle.rules.specs.Step.{new_sum, dry_bank, carried_part, slope}
use Rattle.laws.specs.Engines.{rise_of, engine}
use Rattle.laws.specs.Still.{carries_nothing}
use Rattle.laws.specs.Velocity.{without_water, on_a_bank, elsewhere}
use Rattle.laws.specs.Levels.{SameLevels, same_sum, same_bank, same_rise_of}
use Rattle.momentum.specs.Fits.{FaceFits}
use Rattle.velocity.specs.Fits.{WetFace, InVelocity, InStillVelocity}
use Rattle.velocity.proofs.Bounds.{rise_of_within}
use Rattle.layout.specs.declared.ways.Way.{Way}
use Rattle.layout.specs.Ways.{side}
use Rattle.around.specs.Flowing.{Flowing}
use Rattle.around.specs.Faces.{AtFace, inner_face}
use Rattle.around.specs.Still.{still_face}
use Rattle.transfers.proofs.Sites.{time, side_fits}
use Rattle.around.proofs.Flows.{sound_of}
use Rattle.around.proofs.Ranges.{face_fits, still_fits}
use Rattle.around.proofs.Still.{all_still_lem, levels_same}

module _ {c : Card} {g s t : List ℤ} (flowing : Flowing c g s t) {way : Way} {k l : ℕ} (a : AtFace c way k l) {levels : Face} (read : levels ≡ still_face (read_ground c g) (read_state c t).height way k l) where
  abbrev whole : Face
  whole = inner_face c (read_ground c g) (read_state c s) way k l

  same : SameLevels levels whole
  same = rw read (levels_same flowing a)

  pub levels_fit : FaceFits levels
  levels_fit = rw read (still_fits flowing a)

  pub in_still : {d : ℕ} → d ≡ side c way → InStillVelocity levels c.dt d
  in_still e =
      let sound = sound_of flowing in
      record { face = levels_fit; time = time sound; side = rw e (side_fits sound way); nothing = rw read (carries_nothing (all_still_lem (read_ground c g) (read_state c t).height way k l)) }

  -- 0 without water, and on a dry bank
  pub dry_is : (textbook : Bool) (d : ℕ) → is_zero (new_sum levels) ≡ true → pos 0 ≡ engine textbook c.dt d whole
  dry_is textbook d e = sym (without_water (rise_of textbook) c.dt d whole (rw (← same_sum same) e))

  pub bank_is : (textbook : Bool) (d : ℕ) → dry_bank levels ≡ true → pos 0 ≡ engine textbook c.dt d whole
  bank_is textbook d e = sym (on_a_bank (rise_of textbook) c.dt d whole (sym (same_bank same) ∙ e))

  module _ (wet : is_zero (new_sum levels) ≡ false) where
    pub wet_levels : WetFace levels
    wet_levels = record { face = levels_fit; wet = wet }

    -- with the rise that was returned, and the face that was gathered
    module _ (textbook : Bool) {r : ℤ} (risen : r ≡ rise_of textbook levels) {f : Face} (gathered : f ≡ whole) {d : ℕ} (e : d ≡ side c way) where
      wet_whole : is_zero (new_sum f) ≡ false
      wet_whole = rw (gathered, ← same_sum same) wet

      pub in_velocity : InVelocity f r c.dt d
      in_velocity =
          let sound = sound_of flowing in
          record {
            wet_face = record { face = rw gathered (face_fits flowing a); wet = wet_whole };
            slope = record { small = rw risen (rise_of_within textbook wet_levels); time = time sound; side = rw e (side_fits sound way) };
          }

      pub moved_is : dry_bank levels ≡ false → carried_part f -ℤ slope c.dt d r ≡ engine textbook c.dt (side c way) whole
      moved_is none =
          ap (λ (x : ℤ). carried_part f -ℤ slope c.dt d x) (risen ∙ same_rise_of same textbook ∙ ap (rise_of textbook) (sym gathered))
          ∙ sym (elsewhere (rise_of textbook) c.dt d f wet_whole (rw gathered (sym (same_bank same) ∙ none)))
          ∙ rw (gathered, e)
