-- What a rounded fraction is: an infinity or a finite float, of the sign that it was given, and of a size that the sign does not change.
use Prim.Native.Nat.{ℕ, zero, suc, ◌+◌, ◌-◌, ◌*◌, ◌/◌, ◌%◌, ◌^◌, compare}
use Rattle.std.proofs.Common.{sym, subst}
use Rattle.std.specs.Prelude.{Bool, cond, ltb, ℤ, Float}
use Rattle.std.proofs.Math.Bool.{true, false}
use Rattle.std.specs.Float.{inf, fin, Format}
use Rattle.std.specs.Float.Ieee.{prec, emax, low, size, nearest, odd, units, round}
use Rattle.std.specs.Float.Ieee.Fits.{round_is}

-- ---- What holds of the infinities and of the finite floats of two signs holds of a fraction that is rounded with either

module _ (P : Float → Float → Type 0) (s t : Bool) (infinite : P (inf s) (inf t)) (finite : (m : ℕ) (e : ℤ) → P (fin s m e) (fin t m e)) where
  of_odd : (d q k l : ℕ) → P (odd d s q k l) (odd d t q k l)
  unfolding odd
  of_odd d zero k l = finite zero _
  of_odd d (suc q) k l = finite _ _

  of_units : (f : Format) (q k : ℕ) → P (units f s q k) (units f t q k)
  unfolding units
  of_units f q k = go (ltb (q * 2 ^ k) (2 ^ (low f + suc (emax f))))
    where
      go : (b : Bool) → P (cond b (odd (suc (prec f)) s q k (low f)) (inf s)) (cond b (odd (suc (prec f)) t q k (low f)) (inf t))
      go true = of_odd (suc (prec f)) q k (low f)
      go false = infinite

  pub of_both_lem : (f : Format) (a c : ℕ) → P (round f s a c) (round f t a c)
  of_both_lem f a c =
      let n = a * 2 ^ low f in
      let k = size (n / c) - prec f in
      let u = c * 2 ^ k in
      let q = nearest (n / u) (compare (n % u * 2) u) in
      subst (λ (x : Float). P x (round f t a c)) (sym (round_is f s a c))
      (subst (λ (y : Float). P (units f s q k) y) (sym (round_is f t a c)) (of_units f q k))

-- the same of one sign
pub rounded : (P : Float → Type 0) (f : Format) (s : Bool) (a c : ℕ) → P (inf s) → ((m : ℕ) (e : ℤ) → P (fin s m e)) → P (round f s a c)
rounded P f s a c i g = of_both_lem (λ x y. P x) s s i g f a c
