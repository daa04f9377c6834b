-- Metres with six six_places, read back: a decimal, and the micrometres that were written.
use Rattle.std.specs.Prelude.{ℕ, suc, ◌+◌, ◌*◌, ◌/◌, ◌%◌, ◌^◌, ◌<◌, ◌≡◌, Bool, true, false, ◌&&◌, List, [], ◌∷◌, ◌++◌, ℤ, pos, negsuc, nat_abs, neg_ℤ, length, leb}
use Rattle.std.proofs.Math.Path.{refl}
use Rattle.std.proofs.Common.{ap, arith, ne_eqb}
use Rattle.std.proofs.Math.Nat.{div-div-eq-div-mul}
use Rattle.std.proofs.Math.ListN.{length-append}
use Rattle.std.proofs.lemmas.Bool.{lt-leb}
use Rattle.rules.specs.Text.{decimal}
use Rattle.rules.specs.Raster.{parts_words, is_digit, digits_front, digits_rest, all_digits, digits_fit, number_behind, number_of, is_minus, unsigned, fraction_fits, unsigned_fits, is_decimal, fraction, size_of, signed, decimal_value, nodata_value, lower, is_key, six_places, metres, signed_metres}
use Rattle.raster_laws.specs.Digits.{digit_low, digit_high, digits_first}
use Rattle.raster_laws.specs.Sizes.{unsigned_plain}
use Rattle.raster_laws.specs.Keys.{lower_other}
use Rattle.raster_laws.specs.Spelled.{unparted, unparted_append}
use Rattle.raster_laws.specs.Figures.{digit_of, digits_unparted, front_of, rest_of, decimal_digits, decimal-number, decimal_some, decimal_few}

-- ---- The six six_places behind the point

last_digit : (n : ℕ) → is_digit (48 + n % 10) ≡ true
last_digit n = digit_of (n % 10) (omega arith)

places_digits : (n : ℕ) → all_digits (six_places n) ≡ true
unfolding all_digits
places_digits n = rw (last_digit (n / 100000), last_digit (n / 10000), last_digit (n / 1000), last_digit (n / 100), last_digit (n / 10), last_digit n)

-- one place more
place_more : (n k : ℕ) → n / (k * 10) * 10 + n / k % 10 ≡ n / k
place_more n k = omega (arith, div-div-eq-div-mul n k 10)

places-number : (n : ℕ) → n / 1000000 * 1000000 + number_of (six_places n) ≡ n
unfolding number_of number_behind
places-number n = omega (arith, place_more n 100000, place_more n 10000, place_more n 1000, place_more n 100, place_more n 10)

-- ---- Metres: the digits before the point, and what stands behind them

module _ (n : ℕ) where
  abbrev whole : List ℕ
  whole = decimal (n / 1000000)

  metres_front : digits_front (metres n) ≡ whole
  unfolding metres
  metres_front = front_of 46 (six_places n) refl whole (decimal_digits (n / 1000000))

  metres_rest : digits_rest (metres n) ≡ 46 ∷ six_places n
  unfolding metres
  metres_rest = rest_of 46 (six_places n) refl whole (decimal_digits (n / 1000000))

  metres_fit : n < 10 ^ 18 → unsigned_fits (metres n) ≡ true
  unfolding unsigned_fits fraction_fits digits_fit
  metres_fit h = rw (metres_front, metres_rest, decimal_few (n / 1000000) (omega arith), places_digits n)

  metres_size : n < 10 ^ 18 → size_of (metres n) ≡ n
  unfolding size_of fraction
  metres_size h = rw (metres_front, metres_rest, decimal-number (n / 1000000) (omega arith)) (omega (arith, places-number n))

  pub metres_some : 0 < length (metres n)
  unfolding metres
  metres_some = let some = decimal_some (n / 1000000) in omega (arith, length-append whole (46 ∷ six_places n))

  pub metres_unparted : unparted (metres n) ≡ true
  unfolding metres unparted parts_words
  metres_unparted = unparted_append whole (46 ∷ six_places n) (digits_unparted whole (decimal_digits (n / 1000000))) (digits_unparted (six_places n) (places_digits n))

-- a digit in front: no minus, and not the key of the no-data value, which begins with a letter
digit_plain : (ds rest : List ℕ) → 0 < length ds → all_digits ds ≡ true → is_minus (ds ++ rest) ≡ false
unfolding is_minus
digit_plain [] rest h e = absurd (omega arith)
digit_plain (b ∷ bs) rest h e = let low = digit_low b (digits_first b bs e) in ne_eqb b 45 (λ n. absurd (omega arith))

digit_no_key : (ds rest : List ℕ) → 0 < length ds → all_digits ds ≡ true → is_key nodata_value (ds ++ rest) ≡ false
unfolding is_key
digit_no_key [] rest h e = absurd (omega arith)
digit_no_key (b ∷ bs) rest h e =
    let high = digit_high b (digits_first b bs e) in
    let same : b ≡ lower b = lower_other b (ap (λ (t : Bool). t && leb b 90) (lt-leb 65 b (omega arith))) in
    rw (ne_eqb (lower b) 110 (λ n. absurd (omega arith)))

module _ (n : ℕ) where
  metres_plain : is_minus (metres n) ≡ false
  unfolding metres
  metres_plain = digit_plain (decimal (n / 1000000)) (46 ∷ six_places n) (decimal_some (n / 1000000)) (decimal_digits (n / 1000000))

  metres_no_key : is_key nodata_value (metres n) ≡ false
  unfolding metres
  metres_no_key = digit_no_key (decimal (n / 1000000)) (46 ∷ six_places n) (decimal_some (n / 1000000)) (decimal_digits (n / 1000000))

  pub metres-decimal : n < 10 ^ 18 → is_decimal (metres n) ≡ true
  unfolding is_decimal
  metres-decimal h = rw (unsigned_plain (metres n) metres_plain) (metres_fit n h)

  pub metres_value : n < 10 ^ 18 → decimal_value (metres n) ≡ pos n
  unfolding decimal_value signed
  metres_value h = rw (metres_plain, unsigned_plain (metres n) metres_plain, metres_size n h)

-- ---- With a sign

pub signed_some : (z : ℤ) → 0 < length (signed_metres z)
unfolding signed_metres
signed_some (pos n) = metres_some n
signed_some (negsuc n) = omega arith

pub signed_unparted : (z : ℤ) → unparted (signed_metres z) ≡ true
unfolding signed_metres unparted parts_words
signed_unparted (pos n) = metres_unparted n
signed_unparted (negsuc n) = metres_unparted (suc n)

pub signed_decimal : (z : ℤ) → nat_abs z < 10 ^ 18 → is_decimal (signed_metres z) ≡ true
unfolding signed_metres is_decimal unsigned
signed_decimal (pos n) h = metres-decimal n h
signed_decimal (negsuc n) h = metres_fit (suc n) h

pub signed_value : (z : ℤ) → nat_abs z < 10 ^ 18 → decimal_value (signed_metres z) ≡ z
unfolding signed_metres decimal_value signed is_minus unsigned
signed_value (pos n) h = metres_value n h
signed_value (negsuc n) h = ap (λ (m : ℕ). neg_ℤ (pos m)) (metres_size (suc n) h)

pub signed_no_key : (z : ℤ) → is_key nodata_value (signed_metres z) ≡ false
unfolding signed_metres is_key lower
signed_no_key (pos n) = metres_no_key n
signed_no_key (negsuc n) = refl
