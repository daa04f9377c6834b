-- What crosses the faces of one way: nothing at a wall, and between two cells the transfer of an inner face.
use mathlib.Core.Path.{◌≡◌, ◌∙◌, sym}
use mathlib.Core.Bool.{true, false, cond}
use Prim.Native.Nat.{ℕ, ◌≤◌}
use native.Mathlib.Omega.{arith}
use lib.IntN.{ℤ, pos}
use Rattle.rules.specs.declared.Card.{Card}
use Rattle.rules.specs.Site.{Water}
use Rattle.rules.specs.Step.{transfer, east_transfer, north_transfer}
use Rattle.laws.specs.Lines.{walled_is}
use Rattle.laws.specs.Still.{east_still_lem, north_still_lem}
use Rattle.layout.specs.declared.ways.Way.{Way}
use Rattle.layout.specs.declared.ways.Way.TheVariants.{East, North}
use Rattle.layout.specs.Ways.{wide, high, side, is_wall, back, forth, speeds, transfers, across}
use Rattle.layout.specs.Places.{FaceIn}
use Rattle.layout.proofs.Pointing.{back_forth, back_forth_row, beside}

module _ (c : Card) (w : Water) where
  line : (way : Way) (i j : ℕ) → FaceIn c way i j
      → transfers c w way i j ≡ cond (is_wall c way i j) (pos 0) (transfer c.dt (side c way) (w.height (back way i) (back (across way) j)) (w.height (forth way (back way i)) (forth (across way) (back (across way) j)))
      (speeds w way (forth way (back way i)) (forth (across way) (back (across way) j))))
  unfolding wide high is_wall transfers east_transfer north_transfer side back forth speeds
  line East i j f = let h : i ≤ c.columns = omega (arith, f.column) in walled_is c.columns _ i h
  line North i j f = let h : j ≤ c.rows = omega (arith, f.row) in walled_is c.rows _ j h

  pub over_wall : (way : Way) (i j : ℕ) → FaceIn c way i j → is_wall c way i j ≡ true → transfers c w way i j ≡ pos 0
  over_wall way i j f e = line way i j f ∙ rw e

  -- nothing crosses a face that has no velocity, be it a wall or not
  pub over_still : (way : Way) (i j : ℕ) → speeds w way i j ≡ pos 0 → transfers c w way i j ≡ pos 0
  unfolding transfers speeds
  over_still East i j e = east_still_lem c w i j e
  over_still North i j e = north_still_lem c w i j e

  pub over_inner : (way : Way) (i j : ℕ) → FaceIn c way i j → is_wall c way i j ≡ false
      → transfers c w way i j ≡ transfer c.dt (side c way) (w.height (back way i) (back (across way) j)) (w.height i j) (speeds w way i j)
  over_inner way i j f e =
      let b = beside c way i j f e in
      line way i j f ∙ rw (e, back_forth way i b.back_east, back_forth_row way j b.back_north)

  -- the same of four numbers that were read for it
  pub over_read : {way : Way} {i j : ℕ} → FaceIn c way i j → is_wall c way i j ≡ false → {d : ℕ} {k l u : ℤ} → d ≡ side c way → k ≡ w.height (back way i) (back (across way) j)
      → l ≡ w.height i j → u ≡ speeds w way i j → transfer c.dt d k l u ≡ transfers c w way i j
  over_read {way} {i} {j} f e d_is k_is l_is u_is = rw (d_is, k_is, l_is, u_is) (sym (over_inner way i j f e))
