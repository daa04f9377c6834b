-- How large H', the textbook's terms, a rise and a slope are.
use Prim.Native.Nat.{ℕ, ◌*◌}
use mathlib.Core.Bool.{Bool, true, false}
use native.Mathlib.Nat.{mul-le-mul_left}
use native.Mathlib.Omega.{arith}
use lib.Dec.{lit≤}
use lib.IntN.{ℤ}
use Rattle.rules.specs.declared.Face.{Face}
use Rattle.rules.specs.Step.{new_sum, rise, slope}
use Rattle.rules.specs.Textbook.{pressure, pressure_term, ground_term}
use Rattle.laws.specs.Engines.{rise_of}
use Rattle.laws.specs.Textbook.{textbook_rise_lem}
use Rattle.laws.specs.Sizes.{Within, within_nat, within-add, within-sub, within-mul, within-quot}
use Rattle.face.specs.Ranges.{Time, Side}
use Rattle.face.proofs.Bounds.{height_within}
use Rattle.momentum.specs.Fits.{FaceFits}
use Rattle.velocity.specs.Fits.{WetFace}

pub sum-within : {f : Face} → FaceFits f → Within 100000000 (new_sum f)
sum-within r = within-add (height_within r.new_k) (height_within r.new_l)

-- the textbook's two terms
pub pressure-within : {f : Face} → FaceFits f → Within 5000000000000000 (pressure_term f)
unfolding pressure_term pressure
pressure-within r =
    let k = height_within r.new_k in
    let l = height_within r.new_l in
    within-sub (within-mul l l) (within-mul k k)

pub ground_within : {f : Face} → FaceFits f → Within 10000000000000000 (ground_term f)
unfolding ground_term
ground_within r = within-mul (sum-within r) (within-sub r.ground_l r.ground_k)

pub rise-within : {f : Face} → FaceFits f → Within 200000000 (rise f)
unfolding rise
rise-within r = within-sub (within-add (height_within r.new_l) r.ground_l) (within-add (height_within r.new_k) r.ground_k)

-- by either engine, where there is water
pub rise_of_within : {f : Face} (textbook : Bool) → WetFace f → Within 200000000 (rise_of textbook f)
rise_of_within {f} true r = rw (textbook_rise_lem f r.wet) (rise-within r.face)
rise_of_within false r = rise-within r.face

pub slope-within : {r : ℤ} {dt d : ℕ} → Within 200000000 r → Time dt → Side d → Within 20000000000 (slope dt d r)
unfolding slope
slope-within {d = d} r t s =
    within-quot 100000000 (1000 * d) 20000000000 (within-mul (within_nat (mul-le-mul_left 9806650 t.high)) r) (lit≤ tt) (omega (arith, s.low))
