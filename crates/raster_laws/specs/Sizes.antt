-- Counts and decimals, from the digits that a loop has read: when a word is one, and its number.
use Rattle.std.specs.Prelude.{ℕ, zero, suc, ◌+◌, ◌*◌, ◌-◌, ◌^◌, ◌≤◌, ◌<◌, ◌≡◌, refl, Bool, true, false, not, ◌&&◌, ◌||◌, List, [], ◌∷◌, length, get_or, leb, ltb, eqb}
use Rattle.std.specs.List.{starts_with}
use Rattle.std.proofs.Common.{sym, ◌∙◌, arith, mul_assoc, add-mul, pow-suc, pow-add, add-one, drop_of_length-le, length-drop, drop-cons, leb→le, eq-eqb, ne_eqb, eqb-true, lt-ltb, le-ltb, le-leb, leb-true, leb-false}
use Rattle.std.proofs.Math.Path.{ap, ap₂}
use Rattle.std.proofs.Math.Bool.{and-false, and-true}
use Rattle.std.proofs.Math.Nat.{pow-le-pow_right}
use Rattle.std.proofs.Math.ListN.{drop}
use Rattle.std.proofs.lemmas.Bool.{not-true, not-false, eqb-false}
use Rattle.rules.specs.Site.{within}
use Rattle.rules.specs.Raster.{digits_front, digits_rest, all_digits, digits_fit, number_behind, number_of, is_minus, unsigned, fraction_fits, unsigned_fits, fraction, size_of}
use Rattle.laws.specs.Tests.{and_left, and_right, to_T, true_of}
use Rattle.raster_laws.specs.Digits.{DigitsFrom, Behind, Room, all_front, front_all, rest_is, number_behind_lem}

-- a number that is not between 1 and another, as the code tests it
outside : (most n : ℕ) → (eqb n 0 || ltb most n) ≡ not (within 1 most n)
outside most zero = refl
outside most (suc n) = rw (ne_eqb (suc n) 0 (λ e. absurd (omega arith)), le-leb 1 (suc n) (omega arith)) (go (leb (suc n) most) refl)
  where
    go : (t : Bool) → leb (suc n) most ≡ t → ltb most (suc n) ≡ not t
    go true e = le-ltb most (suc n) (leb-true (suc n) most e)
    go false e = lt-ltb most (suc n) (leb-false (suc n) most e)

pub is_outside : (most n : ℕ) → (eqb n 0 || ltb most n) ≡ true → within 1 most n ≡ false
is_outside most n e = not-true (within 1 most n) (sym (outside most n) ∙ e)

pub is_within : (most n : ℕ) → (eqb n 0 || ltb most n) ≡ false → within 1 most n ≡ true
is_within most n e = not-false (within 1 most n) (sym (outside most n) ∙ e)

pub within_high : (most n : ℕ) → within 1 most n ≡ true → n ≤ most
within_high most n e = leb→le n most (and_right (leb 1 n) (leb n most) (to_T e))

-- ---- Digits up to the end of the word, and digits that stop before it

module _ {word : List ℕ} {at number made end : ℕ} (d : DigitsFrom word at number made end) where
  pub all_there : end ≡ length word → all_digits (drop at word) ≡ true
  all_there e = all_front (drop at word) ∙ eq-eqb (length (digits_front (drop at word))) (length (drop at word)) (let f = d.ends in omega (arith, length-drop at word))

  pub not_all : (end ≡ length word → ⊥) → all_digits (drop at word) ≡ false
  not_all n = all_front (drop at word) ∙ ne_eqb (length (digits_front (drop at word))) (length (drop at word)) (λ e. n (let f = d.ends in let w = d.within in let g = d.from in omega (arith, e, length-drop at word)))

  pub all_made : end ≡ length word → made ≡ number_behind number (drop at word)
  all_made e = d.is ∙ ap (number_behind number) (front_all (drop at word) (all_there e))

-- ---- A count

pub no_count : (most : ℕ) (ds : List ℕ) → within 1 most (length ds) ≡ false → digits_fit most ds ≡ false
unfolding digits_fit
no_count most ds e = rw e

pub no_digits : (most : ℕ) (ds : List ℕ) → all_digits ds ≡ false → digits_fit most ds ≡ false
unfolding digits_fit
no_digits most ds e = rw e (and-false (within 1 most (length ds)))

pub is_count : (most : ℕ) (ds : List ℕ) → within 1 most (length ds) ≡ true → all_digits ds ≡ true → digits_fit most ds ≡ true
unfolding digits_fit
is_count most ds e f = rw (e, f)

-- ---- What stands behind the digits of a decimal

pub fraction_none : (word : List ℕ) (at : ℕ) → at ≡ length word → (fraction_fits (drop at word) ≡ true) × (fraction (drop at word) ≡ 0)
unfolding fraction_fits fraction
fraction_none word at e =
    let none : drop at word ≡ [] = drop_of_length-le word {i = at} (omega arith) in
    (ap fraction_fits none, ap fraction none)

module _ (word : List ℕ) (at : ℕ) (h : at < length word) where
  split : drop at word ≡ get_or word at 0 ∷ drop (at + 1) word
  split = drop-cons word at 0 h ∙ ap (λ (k : ℕ). get_or word at 0 ∷ drop k word) (sym (add-one at))

  pub no_point : eqb (get_or word at 0) 46 ≡ false → fraction_fits (drop at word) ≡ false
  unfolding fraction_fits
  no_point e = ap fraction_fits split ∙ ap (λ (t : Bool). t && digits_fit 6 (drop (at + 1) word)) e

  behind_point : eqb (get_or word at 0) 46 ≡ true → fraction_fits (drop at word) ≡ digits_fit 6 (drop (at + 1) word)
  unfolding fraction_fits
  behind_point e = ap fraction_fits split ∙ ap (λ (t : Bool). t && digits_fit 6 (drop (at + 1) word)) e

  fraction_is : fraction (drop at word) ≡ number_of (drop (at + 1) word) * 10 ^ (6 - length (drop (at + 1) word))
  unfolding fraction
  fraction_is = ap fraction split

-- digits behind a number, in micrometres
pub scaled_up : (number p : ℕ) (ds : List ℕ) → p ≤ 6 → p ≡ length ds → number_behind number ds * 10 ^ (6 - p) ≡ number * 1000000 + number_of ds * 10 ^ (6 - p)
scaled_up number p ds h e =
    ap (λ (m : ℕ). m * 10 ^ (6 - p)) (number_behind_lem number ds ∙ ap (λ (k : ℕ). number * 10 ^ k + number_of ds) (sym e))
    ∙ add-mul (number * 10 ^ p) (number_of ds) (10 ^ (6 - p))
    ∙ ap (λ (m : ℕ). m + number_of ds * 10 ^ (6 - p)) (mul_assoc number (10 ^ p) (10 ^ (6 - p)) ∙ ap (λ (m : ℕ). number * m) (sym (pow-add 10 p (6 - p)) ∙ ap (λ (k : ℕ). 10 ^ k) six))
  where
    six : p + (6 - p) ≡ 6
    six = omega arith

-- what is asked for digits at the front, and for those behind a point
pub start_room : (word : List ℕ) → length word ≤ 19 → Room word 0 0
start_room word h = record { short = h; inside = omega arith; small = omega arith }

pub point_room : {word : List ℕ} {at number : ℕ} → Behind word at number → at < length word → Room word (at + 1) number
point_room {word} {at} {number} b h = record {
  short = b.short;
  inside = omega arith;
  small = (let s = b.small in rw (add-one at) (rw (pow-suc 10 at) (omega arith)));
}

pub whole_small : {word : List ℕ} {at number : ℕ} → Behind word at number → number < 1000000000000
whole_small {word} {at} b = let up : 10 ^ at ≤ 10 ^ 12 = pow-le-pow_right {n = 10} (omega arith) {i = at} {j = 12} b.few in let s = b.small in omega arith

pub more_behind : {word : List ℕ} {at number : ℕ} → Behind word at number → (at ≡ length word → ⊥) → at < length word
more_behind b n = let i = b.inside in omega arith

-- a point, and the digits behind it that a loop has read: whether they are the fraction of a decimal, as the code tests it
module _ {word : List ℕ} {at number made end : ℕ} (b : Behind word at number) (h : at < length word) (point : get_or word at 0 ≡ 46) (d : DigitsFrom word (at + 1) number made end)
    (places : ℕ) (p : places ≡ length word - at - 1) where
  abbrev digits : List ℕ
  digits = drop (at + 1) word

  long : places ≡ length digits
  long = omega (arith, length-drop (at + 1) word)

  behind_it : fraction_fits (drop at word) ≡ digits_fit 6 digits
  behind_it = behind_point word at h (eq-eqb (get_or word at 0) 46 point)

  module _ (some : Bool) (is : some ≡ within 1 6 places) where
    pub fraction_no : (not (eqb end (length word)) || not some) ≡ true → fraction_fits (drop at word) ≡ false
    fraction_no e = go (eqb end (length word)) refl
      where
        go : (t : Bool) → eqb end (length word) ≡ t → fraction_fits (drop at word) ≡ false
        go true f =
            behind_it
            ∙ no_count 6 digits (ap (within 1 6) (sym long) ∙ sym is ∙ not-true some (sym (ap (λ (t : Bool). not t || not some) f) ∙ e))
        go false f = behind_it ∙ no_digits 6 digits (not_all d (eqb-false end (length word) f))

    module _ (e : (not (eqb end (length word)) || not some) ≡ false) where
      ends : end ≡ length word
      ends = go (eqb end (length word)) refl
        where
          go : (t : Bool) → eqb end (length word) ≡ t → end ≡ length word
          go true f = eqb-true end (length word) f
          go false f = absurd (to_T (sym (sym (ap (λ (t : Bool). not t || not some) f) ∙ e)))

      six : within 1 6 places ≡ true
      six = sym is ∙ not-false some (sym (ap (λ (t : Bool). not t || not some) (eq-eqb end (length word) ends)) ∙ e)

      pub fraction_yes : fraction_fits (drop at word) ≡ true
      fraction_yes = behind_it ∙ is_count 6 digits (ap (within 1 6) (sym long) ∙ six) (all_there d ends)

      pub places_few : places ≤ 6
      places_few = within_high 6 places six

      pub made_small : made < 10 ^ (13 + places)
      made_small =
          let few = b.few in
          let small = d.small in
          let up : 10 ^ end ≤ 10 ^ (13 + places) = pow-le-pow_right {n = 10} (omega arith) {i = end} {j = 13 + places} (omega (arith, ends)) in
          omega arith

      pub fraction_size : made * 10 ^ (6 - places) ≡ number * 1000000 + fraction (drop at word)
      fraction_size =
          ap (λ (m : ℕ). m * 10 ^ (6 - places)) (all_made d ends)
          ∙ scaled_up number places digits places_few long
          ∙ ap (λ (m : ℕ). number * 1000000 + m) (ap (λ (k : ℕ). number_of digits * 10 ^ (6 - k)) long ∙ sym (fraction_is word at h))

-- ---- A decimal without its sign

pub minus_none : (w : List ℕ) → length w ≡ 0 → false ≡ is_minus w
unfolding is_minus
minus_none [] e = refl
minus_none (b ∷ bs) e = absurd (omega arith)

pub minus_first : (w : List ℕ) → (length w ≡ 0 → ⊥) → eqb (get_or w 0 0) 45 ≡ is_minus w
unfolding is_minus
minus_first [] e = absurd (e refl)
minus_first (b ∷ bs) e = refl

fraction_short : (l : List ℕ) → fraction_fits l ≡ true → length l ≤ 7
unfolding fraction_fits digits_fit
fraction_short [] e = omega arith
fraction_short (b ∷ ds) e =
    let t = and_right (eqb b 46) (digits_fit 6 ds) (to_T e) in
    omega (arith, within_high 6 (length ds) (true_of (within 1 6 (length ds)) (and_left (within 1 6 (length ds)) (all_digits ds) t)))

pub long_no : (w : List ℕ) → 19 < length w → unsigned_fits w ≡ false
unfolding unsigned_fits
long_no w h = go (unsigned_fits w) refl
  where
    go : (t : Bool) → unsigned_fits w ≡ t → t ≡ false
    go false e = refl
    go true e =
        let one = within 1 12 (length (digits_front w)) in
        let two = fraction_fits (digits_rest w) in
        let whole = within_high 12 (length (digits_front w)) (true_of one (and_left one two (to_T e))) in
        let behind = fraction_short (digits_rest w) (true_of two (and_right one two (to_T e))) in
        absurd (omega (arith, whole, behind, ap length (rest_is w), length-drop (length (digits_front w)) w))

module _ (w : List ℕ) {made end : ℕ} (d : DigitsFrom w 0 0 made end) where
  ends_at : length (digits_front w) ≡ end
  ends_at = let e = d.ends in omega arith

  pub no_whole : within 1 12 end ≡ false → unsigned_fits w ≡ false
  unfolding unsigned_fits
  no_whole e = ap (λ (t : Bool). t && fraction_fits (digits_rest w)) (ap (within 1 12) ends_at ∙ e)

  pub whole_fits : within 1 12 end ≡ true → unsigned_fits w ≡ fraction_fits (drop end w)
  unfolding unsigned_fits
  whole_fits e =
      ap (λ (t : Bool). t && fraction_fits (digits_rest w)) (ap (within 1 12) ends_at ∙ e)
      ∙ ap fraction_fits (rest_is w ∙ ap (λ (k : ℕ). drop k w) ends_at)

  pub size_is : size_of w ≡ made * 1000000 + fraction (drop end w)
  unfolding size_of number_of
  size_is = ap₂ (λ (m k : ℕ). m * 1000000 + k) (sym d.is) (ap fraction (rest_is w ∙ ap (λ (k : ℕ). drop k w) ends_at))

  pub whole_behind : length w ≤ 19 → within 1 12 end ≡ true → Behind w end made
  whole_behind h e = record { short = h; inside = d.within; few = within_high 12 end e; small = d.small }

-- ---- A decimal

pub minus_in_front : (w : List ℕ) → starts_with eqb w (45 ∷ []) ≡ is_minus w
unfolding is_minus
minus_in_front [] = refl
minus_in_front (b ∷ bs) = and-true (eqb 45 b) ∙ go (eqb 45 b) refl
  where
    go : (t : Bool) → eqb 45 b ≡ t → eqb 45 b ≡ eqb b 45
    go true e = e ∙ sym (eq-eqb b 45 (sym (eqb-true 45 b e)))
    go false e = e ∙ sym (ne_eqb b 45 (λ f. eqb-false 45 b e (sym f)))

pub minus_some : (w : List ℕ) → is_minus w ≡ true → 0 < length w
unfolding is_minus
minus_some [] e = absurd (to_T e)
minus_some (b ∷ bs) e = omega arith

pub unsigned_minus : (w : List ℕ) → is_minus w ≡ true → unsigned w ≡ drop 1 w
unfolding is_minus unsigned
unsigned_minus [] e = refl
unsigned_minus (b ∷ bs) e = rw e

pub unsigned_plain : (w : List ℕ) → is_minus w ≡ false → unsigned w ≡ w
unfolding is_minus unsigned
unsigned_plain [] e = refl
unsigned_plain (b ∷ bs) e = rw e
