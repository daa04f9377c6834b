-- Of a staff reading's product (document 02, [1]), by any fraction that it equals and whatever its sign: whether it fits, and which whole number is nearest to it,
-- halves up.
use Rattle.std.specs.Prelude.{ℕ, ◌+◌, ◌*◌, ◌/◌, ◌%◌, ◌≤◌, ◌<◌, ◌≡◌, refl, Bool, false, leb, Float}
use Rattle.std.proofs.Common.{sym, ap, ◌∙◌, le_trans, le_of_eq, le_antisymm, le_of_suc-le-suc, one-mul, mul_assoc, mul_comm, mul_right_comm, mul_left_comm, add_comm, zero-add, add-mul, mul-le-mul_right, mod-lt, div-add-mod', div-mul-le_self, div-lt_iff_lt-mul, arith, leb→le}
use Rattle.std.proofs.Math.Nat.{le_of_mul-le-mul_right, div-eq_of_lt, div-eq_of_lt-le, add-mul-div_right, lt-div-mul-add}
use Rattle.std.proofs.Math.Dec.{le→leb}
use Rattle.std.specs.Float.Ieee.{nan, up, down}
use Rattle.std.specs.Float.{inf, fin}
use Rattle.std.specs.Float.Ieee.Exact.{HasValue}
use Rattle.std.specs.Float.Ieee.Fits.{down_pos}
use Rattle.std.specs.Float.Ieee.Nearest.{div_mono}
use Rattle.rules.specs.Staff.{product_fits, nearest_whole}
use Rattle.laws.specs.Tests.{both_ways}

-- ---- The whole number nearest to a / c, halves up

abbrev pub half_up : (a c : ℕ) → ℕ
half_up a c = (2 * a + c) / (2 * c)

twice_pos : (c : ℕ) → 0 < c → 0 < 2 * c
twice_pos c h = omega arith

-- twice a fraction and 1, over twice its divisor
crossed : (a c d : ℕ) → (2 * a + c) * (2 * d) ≡ 4 * (a * d) + 2 * (c * d)
crossed a c d =
    add-mul (2 * a) c (2 * d)
    ∙ ap (λ (x : ℕ). x + c * (2 * d)) (mul_assoc 2 a (2 * d) ∙ ap (λ (x : ℕ). 2 * x) (mul_left_comm a 2 d) ∙ sym (mul_assoc 2 2 (a * d)))
    ∙ ap (λ (x : ℕ). 4 * (a * d) + x) (mul_left_comm c 2 d)

pub half_up_mono : (a c b d : ℕ) → 0 < c → 0 < d → a * d ≤ b * c → half_up a c ≤ half_up b d
half_up_mono a c b d C D h =
    div_mono (2 * a + c) (2 * c) (2 * b + d) (2 * d) (twice_pos c C) (twice_pos d D)
    (le_trans (le_of_eq (crossed a c d)) (le_trans (greater (a * d) (b * c) (c * d) (d * c) h (mul_comm c d)) (le_of_eq (sym (crossed b d c)))))
  where
    greater : (x y v w : ℕ) → x ≤ y → v ≡ w → 4 * x + 2 * v ≤ 4 * y + 2 * w
    greater x y v w l e = omega arith

half_up_same : (a c b d : ℕ) → 0 < c → 0 < d → a * d ≡ b * c → half_up a c ≡ half_up b d
half_up_same a c b d C D e = le_antisymm (half_up_mono a c b d C D (le_of_eq e)) (half_up_mono b d a c D C (le_of_eq (sym e)))

-- less than a half
pub half_up_none : (a c : ℕ) → 2 * a < c → half_up a c ≡ 0
half_up_none a c h = div-eq_of_lt (omega (arith, h))

-- by what a division leaves: less than half of its divisor, or half at least
module _ (a c : ℕ) (C : 0 < c) where
  by_rest : half_up a c ≡ half_up (a % c) c + a / c
  by_rest = ap (λ (x : ℕ). x / (2 * c)) parted ∙ add-mul-div_right (2 * (a % c) + c) (a / c) (twice_pos c C)
    where
      put : (w r x y : ℕ) → w + r ≡ x → y ≡ 2 * w → 2 * x + c ≡ 2 * r + c + y
      put w r x y e f = omega arith

      parted : 2 * a + c ≡ 2 * (a % c) + c + a / c * (2 * c)
      parted = put (a / c * c) (a % c) a (a / c * (2 * c)) (div-add-mod' a c) (mul_left_comm (a / c) 2 c)

  pub half_up_less : 2 * (a % c) < c → half_up a c ≡ a / c
  half_up_less h = by_rest ∙ ap (λ (x : ℕ). x + a / c) (half_up_none (a % c) c h) ∙ zero-add (a / c)

  pub half_up_more : c ≤ 2 * (a % c) → half_up a c ≡ a / c + 1
  half_up_more h = by_rest ∙ ap (λ (x : ℕ). x + a / c) (one (a % c) (mod-lt a C) h) ∙ add_comm 1 (a / c)
    where
      one : (r : ℕ) → r < c → c ≤ 2 * r → half_up r c ≡ 1
      one r l u = div-eq_of_lt-le (2 * c) (omega (arith, u)) (omega (arith, l))

-- it lies above a / c less a half, at most a half above, and not beyond a whole number that a / c is at most
module _ (a c : ℕ) (C : 0 < c) where
  doubled : 2 * half_up a c * c ≡ half_up a c * (2 * c)
  doubled = ap (λ (k : ℕ). k * c) (mul_comm 2 (half_up a c)) ∙ mul_assoc (half_up a c) 2 c

  pub half_up_above : 2 * a < (2 * half_up a c + 1) * c
  half_up_above =
      less (2 * a) (half_up a c * (2 * c)) ((2 * half_up a c + 1) * c) (lt-div-mul-add (twice_pos c C))
      (add-mul (2 * half_up a c) 1 c ∙ ap (λ (k : ℕ). k + 1 * c) doubled ∙ ap (λ (k : ℕ). half_up a c * (2 * c) + k) (one-mul c))
    where
      less : (x y z : ℕ) → x + c < y + 2 * c → z ≡ y + c → x < z
      less x y z l e = omega arith

  pub half_up_below : 2 * half_up a c * c ≤ 2 * a + c
  half_up_below = le_trans (le_of_eq doubled) (div-mul-le_self (2 * a + c) (2 * c))

  pub half_up_within : a ≤ 50000000 * c → half_up a c ≤ 50000000
  half_up_within l = le_of_suc-le-suc ((div-lt_iff_lt-mul (twice_pos c C)).1 (omega (arith, l, C)))

-- ---- The product, by a fraction that it equals

module _ (s : Bool) (a c : ℕ) (C : 0 < c) where
  pub fits_as : (p : Float) → HasValue p s a c → product_fits p ≡ leb a (50000000 * c)
  unfolding product_fits
  fits_as nan v = absurd v
  fits_as (inf t) v = absurd v
  fits_as (fin t m e) v =
      both_ways (leb (m * up e) (50000000 * down e)) (leb a (50000000 * c))
      (λ t. le→leb a (50000000 * c) (carry (m * up e) (down e) a c v.1 C (down_pos e) (leb→le (m * up e) (50000000 * down e) t)))
      (λ t. le→leb (m * up e) (50000000 * down e) (carry a c (m * up e) (down e) (sym v.1) (down_pos e) C (leb→le a (50000000 * c) t)))
    where
      -- x / y and z / w are one fraction, and at most 50,000,000
      carry : (x y z w : ℕ) → x * w ≡ z * y → 0 < w → 0 < y → x ≤ 50000000 * y → z ≤ 50000000 * w
      carry x y z w e W Y h =
          le_of_mul-le-mul_right
          (le_trans (le_of_eq (sym e)) (le_trans (mul-le-mul_right w h) (le_of_eq (mul_right_comm 50000000 y w))))
          Y

  pub whole_as : (p : Float) → HasValue p s a c → nearest_whole p ≡ half_up a c
  unfolding nearest_whole
  whole_as nan v = absurd v
  whole_as (inf t) v = absurd v
  whole_as (fin t m e) v = half_up_same (m * up e) (down e) a c (down_pos e) C v.1

-- ---- The sign of a product does not count

abbrev pub magnitude : Float → Float
magnitude nan = nan
magnitude (inf s) = inf false
magnitude (fin s m e) = fin false m e

fits_so : (x : Float) → product_fits (magnitude x) ≡ product_fits x
unfolding product_fits
fits_so nan = refl
fits_so (inf s) = refl
fits_so (fin s m e) = refl

whole_so : (x : Float) → nearest_whole (magnitude x) ≡ nearest_whole x
unfolding nearest_whole
whole_so nan = refl
whole_so (inf s) = refl
whole_so (fin s m e) = refl

module _ (x y : Float) (e : magnitude x ≡ magnitude y) where
  pub fits_alike : product_fits x ≡ product_fits y
  fits_alike = sym (fits_so x) ∙ ap product_fits e ∙ fits_so y

  pub whole_alike : nearest_whole x ≡ nearest_whole y
  whole_alike = sym (whole_so x) ∙ ap nearest_whole e ∙ whole_so y
