-- The decimal digits of a number, read back: digits and nothing else, and the number that they are.
use Rattle.std.specs.Prelude.{ℕ, zero, suc, ◌+◌, ◌*◌, ◌-◌, ◌/◌, ◌%◌, ◌^◌, ◌≤◌, ◌<◌, ◌≡◌, refl, Bool, true, false, cond, ◌&&◌, length, ltb}
use Rattle.std.proofs.Common.{ap, ap₂, ◌∙◌, pow-suc, arith, length-append, ltb-true, ne_eqb}
use mathlib.Core.List.{List, [], ◌∷◌, ◌++◌}
use Rattle.rules.specs.Site.{within}
use Rattle.rules.specs.Text.{digits_of, decimal}
use Rattle.rules.specs.Raster.{parts_words, is_digit, digits_front, digits_rest, all_digits, digits_fit, number_behind, number_of}
use Rattle.laws.specs.Decimals.{length-decimal}
use Rattle.laws.specs.Facts.{within_ends}
use Rattle.raster_laws.specs.Digits.{digit_low, digits_first, digits_others}
use Rattle.raster_laws.specs.Sizes.{is_count}
use Rattle.raster_laws.specs.Spelled.{unparted}

-- ---- Digits and nothing else, taken apart and put together

digits_append : (ds es : List ℕ) → all_digits ds ≡ true → all_digits es ≡ true → all_digits (ds ++ es) ≡ true
unfolding all_digits
digits_append [] es e f = f
digits_append (b ∷ bs) es e f = ap₂ ◌&&◌ (digits_first b bs e) (digits_append bs es (digits_others b bs e) f)

-- a number below 10 as a digit
pub digit_of : (n : ℕ) → n < 10 → is_digit (48 + n) ≡ true
digit_of n h = within_ends 48 57 (48 + n) (omega arith) (omega arith)

-- no digit parts words
pub digits_unparted : (ds : List ℕ) → all_digits ds ≡ true → unparted ds ≡ true
unfolding unparted parts_words
digits_unparted [] e = refl
digits_unparted (b ∷ bs) e =
    let low : 48 ≤ b = digit_low b (digits_first b bs e) in
    rw (ne_eqb b 32 (λ n. absurd (omega arith)), ne_eqb b 9 (λ n. absurd (omega arith)), ne_eqb b 10 (λ n. absurd (omega arith)), ne_eqb b 13 (λ n. absurd (omega arith)))
    (digits_unparted bs (digits_others b bs e))

-- ---- Digits in front of a byte that is none

module _ (b : ℕ) (rest : List ℕ) (other : is_digit b ≡ false) where
  pub front_of : (ds : List ℕ) → all_digits ds ≡ true → digits_front (ds ++ (b ∷ rest)) ≡ ds
  unfolding digits_front
  front_of [] e = rw other
  front_of (d ∷ ds) e = rw (digits_first d ds e) (ap (λ (l : List ℕ). d ∷ l) (front_of ds (digits_others d ds e)))

  pub rest_of : (ds : List ℕ) → all_digits ds ≡ true → digits_rest (ds ++ (b ∷ rest)) ≡ b ∷ rest
  unfolding digits_rest
  rest_of [] e = rw other
  rest_of (d ∷ ds) e = rw (digits_first d ds e) (rest_of ds (digits_others d ds e))

-- ---- The digits of a number

pub number_append : (n : ℕ) (ds es : List ℕ) → number_behind n (ds ++ es) ≡ number_behind (number_behind n ds) es
unfolding number_behind
number_append n [] es = refl
number_append n (d ∷ ds) es = number_append (n * 10 + (d - 48)) ds es

digits_all : (k n : ℕ) → all_digits (digits_of k n) ≡ true
unfolding digits_of all_digits
digits_all zero n = refl
digits_all (suc k) n = go (digits_all k (n / 10)) (ltb n 10) refl
  where
    go : all_digits (digits_of k (n / 10)) ≡ true → (t : Bool) → ltb n 10 ≡ t → all_digits (cond t ((48 + n) ∷ []) (digits_of k (n / 10) ++ ((48 + n % 10) ∷ []))) ≡ true
    go front true e = ap (λ (t : Bool). t && true) (digit_of n (ltb-true n 10 e))
    go front false e = digits_append (digits_of k (n / 10)) ((48 + n % 10) ∷ []) front (ap (λ (t : Bool). t && true) (digit_of (n % 10) (omega arith)))

digits_number : (k n : ℕ) → n < 10 ^ k → number_of (digits_of k n) ≡ n
unfolding digits_of number_of number_behind
digits_number zero n h = omega arith
digits_number (suc k) n h = go (digits_number k (n / 10) (omega (arith, pow-suc 10 k))) (ltb n 10)
  where
    go : number_behind 0 (digits_of k (n / 10)) ≡ n / 10 → (t : Bool) → number_behind 0 (cond t ((48 + n) ∷ []) (digits_of k (n / 10) ++ ((48 + n % 10) ∷ []))) ≡ n
    go front true = omega arith
    go front false =
        number_append 0 (digits_of k (n / 10)) ((48 + n % 10) ∷ [])
        ∙ ap (λ (m : ℕ). m * 10 + (48 + n % 10 - 48)) front
        ∙ (let e' : n / 10 * 10 + (48 + n % 10 - 48) ≡ n = omega arith in e')

digits_some : (k n : ℕ) → 0 < length (digits_of (suc k) n)
unfolding digits_of
digits_some k n = go (ltb n 10)
  where
    go : (t : Bool) → 0 < length (cond t ((48 + n) ∷ []) (digits_of k (n / 10) ++ ((48 + n % 10) ∷ [])))
    go true = omega arith
    go false = omega (arith, length-append (digits_of k (n / 10)) ((48 + n % 10) ∷ []))

pub decimal_digits : (n : ℕ) → all_digits (decimal n) ≡ true
unfolding decimal
decimal_digits n = digits_all 20 n

pub decimal-number : (n : ℕ) → n < 10 ^ 20 → number_of (decimal n) ≡ n
unfolding decimal
decimal-number n h = digits_number 20 n h

pub decimal_some : (n : ℕ) → 0 < length (decimal n)
unfolding decimal
decimal_some n = digits_some 19 n

pub decimal_few : (n : ℕ) → n < 10 ^ 12 → within 1 12 (length (decimal n)) ≡ true
decimal_few n h = within_ends 1 12 (length (decimal n)) (decimal_some n) (length-decimal 11 8 n refl h)

-- what is written as a count is read as one
pub decimal_count : (n : ℕ) → n < 10 ^ 12 → digits_fit 12 (decimal n) ≡ true
decimal_count n h = is_count 12 (decimal n) (decimal_few n h) (decimal_digits n)
