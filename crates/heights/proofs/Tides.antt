-- What is read from a list that holds the tide, or so far only what crosses the faces.
use mathlib.Core.Path.{◌≡◌, sym, ap, ◌∙◌}
use mathlib.Core.List.{List}
use Prim.Native.Nat.{ℕ, ◌*◌}
use native.Mathlib.Omega.{arith}
use lib.IntN.{ℤ, pos}
use lib.Signed.{le_z}
use lib.ListN.{drop}
use Rattle.rules.specs.declared.Card.{Card}
use Rattle.rules.specs.Site.{read_state, write_state}
use Rattle.rules.specs.Step.{new_heights_fit}
use Rattle.laws.specs.Grids.{all_at_same}
use Rattle.laws.specs.States.{height_back, east_back, north_back}
use Rattle.laws.specs.Behind.{behind_heights, east_alike, north_alike}
use Rattle.laws.specs.Reading.{Holds}
use Rattle.transfers.specs.Tide.{tide, crossings, tide_fits}
use Rattle.layout.specs.declared.ways.Way.{Way}
use Rattle.layout.specs.declared.ways.Way.TheVariants.{East, North}
use Rattle.layout.specs.Places.{FaceIn}
use Rattle.heights.specs.Known.{Crossed}
use Rattle.layout.specs.Ways.{wide, high, speeds, transfers}

module _ {c : Card} {s t : List ℤ} (lists : Crossed c s t) where
  like_tide : drop (c.rows * c.columns) t ≡ drop (c.rows * c.columns) (write_state c (tide c (read_state c s)))
  unfolding crossings tide
  like_tide = lists.crossed ∙ sym (behind_heights c (tide c (read_state c s)))

  pub crossing : (way : Way) (i j : ℕ) → FaceIn c way i j → speeds (read_state c t) way i j ≡ transfers c (read_state c s) way i j
  unfolding tide wide high speeds transfers
  crossing East i j f =
      let w = tide c (read_state c s) in
      east_alike c t (write_state c w) like_tide i j ∙ east_back c w i j (omega (arith, f.column)) f.row
  crossing North i j f =
      let w = tide c (read_state c s) in
      north_alike c t (write_state c w) like_tide i j ∙ north_back c w i j f.column (omega (arith, f.row))

-- the heights of a list that holds the tide are the new ones
pub tide_heights : {c : Card} (s : List ℤ) {t : List ℤ} → Holds c (tide c (read_state c s)) t
    → tide_fits c t ≡ new_heights_fit c (read_state c s)
unfolding tide_fits new_heights_fit tide
tide_heights {c} s {t} h =
    let w = tide c (read_state c s) in
    all_at_same c.columns c.rows _ _ (λ i j hi hj. ap (λ (z : ℤ). le_z z (pos 50000000)) (ap (λ (l : List ℤ). (read_state c l).height i j) h.is ∙ height_back c w i j hi hj))
