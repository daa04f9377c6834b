-- Why what specs/Staffs.antt says holds.
use Rattle.std.specs.Prelude.{ℕ, zero, suc, ◌*◌, ◌<◌, ◌≡◌, refl, Bool, true, false, ◌&&◌, cond, T, pos}
use Rattle.std.proofs.Common.{zero-le, sym, subst, lt_irrefl, arith, leb→le, le→leb}
use Rattle.std.specs.Int.Signed.{le_z}
use lib.Ieee.{Float, nan, inf, fin, binary64, up, down, mul, le, of_bits, of_int, round, units, odd, size, span, climb}
use Rattle.std.specs.Int.Count.{count_trailing_zeros}
use Rattle.std.specs.Float.Ieee.Fits.{down_pos}
use Rattle.std.specs.Float.Ieee.Positive.{positive}
use Rattle.rules.specs.declared.Reading.{Reading}
use Rattle.rules.specs.declared.Reading.TheVariants.{Metres, Feet, Nothing}
use Rattle.rules.specs.declared.Staff.{Staff}
use Rattle.rules.specs.Search.{as_float}
use Rattle.rules.specs.Staff.{product, value_fits, product_fits, nearest_whole, with_height, without_height, measured}
use Rattle.rules.specs.Calls.{staff_answer, kind_answer}
use Rattle.laws.specs.Tests.{to_T, true_of, and_both}
use Rattle.laws.specs.NotBelow.{at_least_0, product_at_least_0}
use Rattle.laws.specs.Nearest.{half_up, half_up_above, half_up_below, half_up_within}
use Rattle.promises.specs.StaffOrder.{products_in_order}
use Rattle.promises.specs.Staffs.{Near, NoGreater}

-- what a reading with a height says
record Read (v p : Float) : Type 0 where
  value : value_fits v ≡ true
  fits : product_fits p ≡ true
  is : measured v p ≡ with_height (pos (nearest_whole p))

not_read : (◌≡◌ {A = ℕ} 0 1) → ⊥
not_read e = omega arith

told : (v p : Float) → value_fits v ≡ true → product_fits p ≡ true → measured v p ≡ with_height (pos (nearest_whole p))
unfolding measured
told v p f g = rw (f, g)

was_read : (v p : Float) → (measured v p).read ≡ 1 → Read v p
unfolding measured without_height
was_read v p e = go (value_fits v) (product_fits p) refl refl e
  where
    go : (x y : Bool) → value_fits v ≡ x → product_fits p ≡ y → (cond (x && y) (with_height (pos (nearest_whole p))) (without_height 3)).read ≡ 1 → Read v p
    go true true f g k = record { value = f; fits = g; is = told v p f g }
    go true false f g k = absurd (not_read k)
    go false y f g k = absurd (not_read k)

near_whole : (p : Float) → T (le (of_bits binary64 0) p) → product_fits p ≡ true → Near p (pos (nearest_whole p))
unfolding product_fits nearest_whole
near_whole nan l f = absurd (to_T f)
near_whole (inf s) l f = absurd (to_T f)
near_whole (fin s m e) l f =
    let a = m * up e in
    let c = down e in
    let h = half_up a c in
    record {
      finite = tt;
      not_below_0 = l;
      above_half_below = half_up_above a c (down_pos e);
      half_above_at_most = half_up_below a c (down_pos e);
      fits = and_both (le_z (pos 0) (pos h)) (le_z (pos h) (pos 50000000)) (le→leb 0 h zero-le) (le→leb h 50000000 (half_up_within a c (down_pos e) (leb→le a (50000000 * c) (to_T f))));
    }

-- a value that fits is at or above 0
value_at_least_0 : (v : Float) → value_fits v ≡ true → T (le (of_bits binary64 0) v)
unfolding value_fits
value_at_least_0 nan f = absurd (to_T f)
value_at_least_0 (inf s) f = absurd (to_T f)
value_at_least_0 (fin s m e) f = subst T (sym (at_least_0 s m e)) (to_T f)

near : (k : Float) → T (positive k) → (v : Float) → (measured v (mul binary64 v k)).read ≡ 1 → Near (mul binary64 v k) (measured v (mul binary64 v k)).height
unfolding with_height
near k P v e =
    let p = mul binary64 v k in
    let r = was_read v p e in
    subst (λ (a : Staff). Near p a.height) (sym r.is) (near_whole p (product_at_least_0 v k P (value_at_least_0 v r.value)) r.fits)

-- of metres, and of feet
pub metres_near : (v : Float) → (staff_answer (Metres v)).read ≡ 1 → Near (product 1000000 v) (staff_answer (Metres v)).height
unfolding staff_answer product of_int round units odd size span climb count_trailing_zeros
metres_near v e = near (as_float (pos 1000000)) tt v e

pub feet_near : (v : Float) → (staff_answer (Feet v)).read ≡ 1 → Near (product 304800 v) (staff_answer (Feet v)).height
unfolding staff_answer product of_int round units odd size span climb count_trailing_zeros
feet_near v e = near (as_float (pos 304800)) tt v e

in_order : (k : Float) → T (positive k) → (v w : Float) → T (le v w) → value_fits v ≡ true → (measured w (mul binary64 w k)).read ≡ 1 → NoGreater (measured v (mul binary64 v k)) (measured w (mul binary64 w k))
unfolding with_height
in_order k P v w l f e =
    let r = was_read w (mul binary64 w k) e in
    let o = products_in_order k P v w l f r.value r.fits in
    let is : measured v (mul binary64 v k) ≡ with_height (pos (nearest_whole (mul binary64 v k))) = told v (mul binary64 v k) f o.fits in
    subst (λ (a : Staff). NoGreater a (measured w (mul binary64 w k))) (sym is)
    (subst (λ (b : Staff). NoGreater (with_height (pos (nearest_whole (mul binary64 v k)))) b) (sym r.is)
    record { number = refl; read = refl; height = le→leb (nearest_whole (mul binary64 v k)) (nearest_whole (mul binary64 w k)) o.whole })

pub metres_in_order : (v w : Float) → T (le v w) → T (value_fits v) → (staff_answer (Metres w)).read ≡ 1 → NoGreater (staff_answer (Metres v)) (staff_answer (Metres w))
unfolding staff_answer product of_int round units odd size span climb count_trailing_zeros
metres_in_order v w l f e = in_order (as_float (pos 1000000)) tt v w l (true_of (value_fits v) f) e

pub feet_in_order : (v w : Float) → T (le v w) → T (value_fits v) → (staff_answer (Feet w)).read ≡ 1 → NoGreater (staff_answer (Feet v)) (staff_answer (Feet w))
unfolding staff_answer product of_int round units odd size span climb count_trailing_zeros
feet_in_order v w l f e = in_order (as_float (pos 304800)) tt v w l (true_of (value_fits v) f) e

-- ---- Refused: with 3, and there is no height, by either form of a reading

refused : (v p : Float) → 0 < (measured v p).number → measured v p ≡ without_height 3
unfolding measured with_height
refused v p h = go (value_fits v && product_fits p) h
  where
    go : (b : Bool) → 0 < (cond b (with_height (pos (nearest_whole p))) (without_height 3)).number → cond b (with_height (pos (nearest_whole p))) (without_height 3) ≡ without_height 3
    go true h = absurd (lt_irrefl 0 h)
    go false h = refl

pub staff_refused : (r : Reading) → 0 < (staff_answer r).number → staff_answer r ≡ without_height 3
unfolding staff_answer without_height
staff_refused (Metres v) h = refused v (product 1000000 v) h
staff_refused (Feet v) h = refused v (product 304800 v) h
staff_refused Nothing h = absurd (lt_irrefl 0 h)

pub kind_refused : (kind : ℕ) (v : Float) → 0 < (kind_answer kind v).number → kind_answer kind v ≡ without_height 3
unfolding kind_answer
kind_refused zero v h = staff_refused Nothing h
kind_refused (suc zero) v h = staff_refused (Metres v) h
kind_refused (suc (suc zero)) v h = staff_refused (Feet v) h
kind_refused (suc (suc (suc k))) v h = refl
