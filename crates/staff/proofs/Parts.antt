-- A product by the parts of its bits: what stands there without the sign, the exponent, and the significand with its leading 1. From the exponent 1 on the product is
-- the significand over a power of two; below it is less than any half.
use Prim.Native.Nat.{ℕ, zero, suc, ◌+◌, ◌-◌, ◌*◌, ◌/◌, ◌%◌, ◌^◌, ◌≤◌, ◌<◌}
use mathlib.Core.Path.{◌≡◌, refl, sym, ap, ◌∙◌, subst}
use mathlib.Core.Bool.{Bool, true, false, cond}
use native.Mathlib.Nat.{le_trans, le_of_eq, le_of_lt, mul-le-mul, mul-le-mul_left, lt_of_lt_of_le, lt_of_le_of_lt, mul_assoc, mul_right_comm, mul-lt-mul_of_pos_right, eq_of_mul-eq-mul_right, mul-one, mod-lt, le_of_suc-le-suc, one-mul}
use native.Mathlib.Omega.{arith}
use lib.Dec.{leb, eqb, eqb→eq, lit≤, lit<}
use lib.Pow.{pow-add, pow_pos, pow_mono, mod-mod-pow, shl_exact, shr_lt}
use lib.Ieee.{Float, nan, inf, fin, binary64, up, down, odd, of_fields, of_bits}
use lib.Ieee.Exact.{HasValue, odd_sign}
use borrow.Author.Tests.{leb-true, leb-false, le-leb, lt-leb}
use Rattle.rules.specs.Staff.{product_fits, nearest_whole}
use Rattle.laws.specs.Tests.{to_T}
use Rattle.laws.specs.Nearest.{half_up, half_up_none, fits_as, whole_as}

-- the bits without the sign; of these the exponent, and the significand where the exponent is not 0
abbrev pub bare : ℕ → ℕ
bare b = b % 0x8000_0000_0000_0000

abbrev pub exponent : ℕ → ℕ
exponent u = u / 0x10_0000_0000_0000

abbrev pub significand : ℕ → ℕ
significand u = 0x10_0000_0000_0000 + u % 0x10_0000_0000_0000

-- ---- What the parts stand for

-- a fraction of the same size
same_size : (p : Float) (s : Bool) (a c b d : ℕ) → 0 < c → b * c ≡ a * d → HasValue p s a c → HasValue p s b d
same_size nan s a c b d C h v = v
same_size (inf t) s a c b d C h v = v
same_size (fin t m e) s a c b d C h v = (
  v.0,
  eq_of_mul-eq-mul_right c C (m * up e * d) (b * down e)
      (mul_right_comm (m * up e) d c
      ∙ ap (λ (x : ℕ). x * d) v.1
      ∙ mul_right_comm a (down e) d
      ∙ ap (λ (x : ℕ). x * down e) (sym h)
      ∙ mul_right_comm b c (down e)),
)

by_fields : (b : ℕ) → of_bits binary64 b ≡ of_fields binary64 (leb 0x8000_0000_0000_0000 b) (exponent (bare b)) (bare b % 0x10_0000_0000_0000)
unfolding of_bits
by_fields b = ap (of_fields binary64 (leb 0x8000_0000_0000_0000 b) (exponent (bare b))) (sym (mod-mod-pow b 11 52))

of_fields_lem : (s : Bool) (x t : ℕ) → x < 2046 → HasValue (of_fields binary64 s (suc x) t) s ((0x10_0000_0000_0000 + t) * 2 ^ x) (2 ^ 1074)
unfolding of_fields
of_fields_lem s x t h = go (eqb (suc x) 2047) refl
  where
    go : (b : Bool) → eqb (suc x) 2047 ≡ b → HasValue (cond b (cond (eqb t 0) (inf s) nan) (odd 53 s (0x10_0000_0000_0000 + t) x 1074)) s ((0x10_0000_0000_0000 + t) * 2 ^ x) (2 ^ 1074)
    go true e = absurd (off (eqb→eq (suc x) 2047 (to_T e)))
      where
        off : suc x ≡ 2047 → ⊥
        off e = omega arith
    go false e = odd_sign 53 s (0x10_0000_0000_0000 + t) x 1074

-- no leading 1
of_no_exponent : (s : Bool) (t : ℕ) → HasValue (of_fields binary64 s 0 t) s (t * 2 ^ 0) (2 ^ 1074)
unfolding of_fields
of_no_exponent s t = odd_sign 53 s t 0 1074

-- an infinity, or a NaN
no_fit : (s : Bool) (t : ℕ) → product_fits (of_fields binary64 s 2047 t) ≡ false
unfolding of_fields product_fits
no_fit s t = go (eqb t 0)
  where
    go : (b : Bool) → product_fits (cond b (inf s) nan) ≡ false
    go true = refl
    go false = refl

-- ---- The product, for its fields x and t

module _ (s : Bool) (t : ℕ) (T52 : t < 0x10_0000_0000_0000) where
  abbrev q : ℕ
  q = 0x10_0000_0000_0000 + t

  q_low : 2 ^ 52 ≤ q
  q_low = omega arith

  q_high : q < 2 ^ 53
  q_high = omega (arith, T52)

  abbrev of : ℕ → Float
  of x = of_fields binary64 s x t

  scaled : (x : ℕ) → x ≤ 1074 → q * 2 ^ 1074 ≡ q * 2 ^ x * 2 ^ (1074 - x)
  scaled x h = ap (λ (k : ℕ). q * 2 ^ k) (sum x h) ∙ ap (λ (k : ℕ). q * k) (pow-add 2 x (1074 - x)) ∙ sym (mul_assoc q (2 ^ x) (2 ^ (1074 - x)))
    where
      sum : (x : ℕ) → x ≤ 1074 → 1074 ≡ x + (1074 - x)
      sum x h = omega arith

  -- the significand over a power of two
  over : (x : ℕ) → x ≤ 1074 → HasValue (of (suc x)) s q (2 ^ (1074 - x))
  over x h = same_size (of (suc x)) s (q * 2 ^ x) (2 ^ 1074) q (2 ^ (1074 - x)) (pow_pos 1074) (scaled x h) (of_fields_lem s x t (omega (arith, h)))

  fits_small : (x : ℕ) → x ≤ 1047 → product_fits (of x) ≡ true
  fits_small zero h =
      fits_as s (t * 2 ^ 0) (2 ^ 1074) (pow_pos 1074) (of 0) (of_no_exponent s t)
      ∙ le-leb (t * 2 ^ 0) (50000000 * 2 ^ 1074) (le_trans (le_of_eq (mul-one t)) (le_trans (le_of_lt T52) (lit≤ tt)))
  fits_small (suc x) h =
      fits_as s (q * 2 ^ x) (2 ^ 1074) (pow_pos 1074) (of (suc x)) (of_fields_lem s x t (omega (arith, h)))
      ∙ le-leb (q * 2 ^ x) (50000000 * 2 ^ 1074) (le_trans (mul-le-mul (le_of_lt q_high) (pow_mono {j = 1046} (omega (arith, h)))) (lit≤ tt))

  fits_great : (x : ℕ) → 1048 ≤ x → x < 2046 → product_fits (of (suc x)) ≡ false
  fits_great x l h =
      fits_as s (q * 2 ^ x) (2 ^ 1074) (pow_pos 1074) (of (suc x)) (of_fields_lem s x t h)
      ∙ lt-leb (q * 2 ^ x) (50000000 * 2 ^ 1074) (lt_of_lt_of_le (lit< tt) (mul-le-mul q_low (pow_mono l)))

  -- at the exponent of 50,000,000 the significand decides
  fits_there : product_fits (of 1048) ≡ leb q (50000000 * 2 ^ 27)
  fits_there = fits_as s q (2 ^ 27) (pow_pos 27) (of 1048) (over 1047 (lit≤ tt))

  no_half : (n m : ℕ) → n < m → 2 * n < 2 * m
  no_half n m h = omega arith

  whole_small : (x : ℕ) → x ≤ 1021 → nearest_whole (of x) ≡ 0
  whole_small zero h =
      whole_as s (t * 2 ^ 0) (2 ^ 1074) (pow_pos 1074) (of 0) (of_no_exponent s t)
      ∙ half_up_none (t * 2 ^ 0) (2 ^ 1074) (no_half (t * 2 ^ 0) (2 ^ 1073) (lt_of_le_of_lt (le_of_eq (mul-one t)) (lt_of_lt_of_le T52 (lit≤ tt))))
  whole_small (suc x) h =
      whole_as s (q * 2 ^ x) (2 ^ 1074) (pow_pos 1074) (of (suc x)) (of_fields_lem s x t (omega (arith, h)))
      ∙ half_up_none (q * 2 ^ x) (2 ^ 1074) (no_half (q * 2 ^ x) (2 ^ 1073) (lt_of_lt_of_le (mul-lt-mul_of_pos_right q_high (pow_pos x)) (mul-le-mul_left (2 ^ 53) (pow_mono {j = 1020} (omega (arith, h))))))

  whole_great : (x : ℕ) → x ≤ 1074 → nearest_whole (of (suc x)) ≡ half_up q (2 ^ (1074 - x))
  whole_great x h = whole_as s q (2 ^ (1074 - x)) (pow_pos (1074 - x)) (of (suc x)) (over x h)

-- ---- The product that bits stand for, for their bits u without the sign. Those of 50,000,000 and below fit

abbrev pub limit : ℕ
limit = 0x4187_d784_0000_0000

module _ (b u : ℕ) (is : bare b ≡ u) where
  abbrev p : Float
  p = of_bits binary64 b

  abbrev s : Bool
  s = leb 0x8000_0000_0000_0000 b

  abbrev t : ℕ
  t = u % 0x10_0000_0000_0000

  t_fits : t < 0x10_0000_0000_0000
  t_fits = mod-lt u (lit< tt)

  at : {x : ℕ} → exponent u ≡ x → p ≡ of_fields binary64 s x t
  at e = by_fields b ∙ ap (λ (v : ℕ). of_fields binary64 s (exponent v) (v % 0x10_0000_0000_0000)) is ∙ ap (λ (x : ℕ). of_fields binary64 s x t) e

  at_next : 1 ≤ exponent u → p ≡ of_fields binary64 s (suc (exponent u - 1)) t
  at_next h = at (omega (arith, h))

  pub fits_below : u ≤ limit → product_fits p ≡ true
  fits_below h = go (leb (exponent u) 1047) refl
    where
      go : (c : Bool) → leb (exponent u) 1047 ≡ c → product_fits p ≡ true
      go true e = ap product_fits (at refl) ∙ fits_small s t t_fits (exponent u) (leb-true (exponent u) 1047 e)
      go false e =
          let there : exponent u ≡ 1048 = omega (arith, h, leb-false (exponent u) 1047 e) in
          ap product_fits (at there) ∙ fits_there s t t_fits ∙ le-leb (significand u) (50000000 * 2 ^ 27) (omega (arith, h, there))

  pub no_fit_above : limit < u → product_fits p ≡ false
  no_fit_above h = go (leb (exponent u) 1048) (leb (exponent u) 2046) refl refl
    where
      u_fits : u < 0x8000_0000_0000_0000
      u_fits = subst (λ (n : ℕ). n < 0x8000_0000_0000_0000) is (mod-lt b (lit< tt))

      go : (c d : Bool) → leb (exponent u) 1048 ≡ c → leb (exponent u) 2046 ≡ d → product_fits p ≡ false
      go true d e f =
          let there : exponent u ≡ 1048 = omega (arith, h, leb-true (exponent u) 1048 e) in
          ap product_fits (at there) ∙ fits_there s t t_fits ∙ lt-leb (significand u) (50000000 * 2 ^ 27) (omega (arith, h, there))
      go false true e f =
          let over : 1048 < exponent u = leb-false (exponent u) 1048 e in
          ap product_fits (at_next (omega (arith, over))) ∙ fits_great s t t_fits (exponent u - 1) (omega (arith, over)) (omega (arith, over, leb-true (exponent u) 2046 f))
      go false false e f = ap product_fits (at (omega (arith, u_fits, leb-false (exponent u) 2046 f))) ∙ no_fit s t

  pub less_than_half : exponent u < 1022 → nearest_whole p ≡ 0
  less_than_half h = ap nearest_whole (at refl) ∙ whole_small s t t_fits (exponent u) (le_of_suc-le-suc h)

  by_significand : 1022 ≤ exponent u → exponent u ≤ 1048 → nearest_whole p ≡ half_up (significand u) (2 ^ (1075 - exponent u))
  by_significand h l =
      ap nearest_whole (at_next (omega (arith, h)))
      ∙ whole_great s t t_fits (exponent u - 1) (omega (arith, l))
      ∙ ap (λ (k : ℕ). half_up (significand u) (2 ^ k)) (omega (arith, h))

-- ---- The unit: the power of two that the significand is divided by

abbrev pub unit : ℕ → ℕ
unit u = 1 * 2 ^ (1075 - exponent u) % 2 ^ 64

module _ (u : ℕ) (low : 1022 ≤ exponent u) where
  unit_is : unit u ≡ 2 ^ (1075 - exponent u)
  unit_is = shl_exact 1 (1075 - exponent u) 64 (lit< tt) (omega (arith, low)) ∙ one-mul (2 ^ (1075 - exponent u))

  pub unit_pos : 0 < unit u
  unit_pos = subst (λ (n : ℕ). 0 < n) (sym unit_is) (pow_pos (1075 - exponent u))

  pub rest_fits : significand u % unit u < 2 ^ 53
  rest_fits = lt_of_lt_of_le (mod-lt (significand u) unit_pos) (subst (λ (n : ℕ). n ≤ 2 ^ 53) (sym unit_is) (pow_mono {j = 53} (omega (arith, low))))

  module _ (high : exponent u ≤ 1048) where
    pub whole_fits : significand u / unit u < 2 ^ 26
    whole_fits =
        subst (λ (n : ℕ). significand u / n < 2 ^ 26) (sym unit_is)
        (shr_lt 26 (1075 - exponent u) (lt_of_lt_of_le (q_high true (u % 0x10_0000_0000_0000) (mod-lt u (lit< tt))) (pow_mono {i = 53} (omega (arith, high)))))

    pub by_unit : (b : ℕ) → bare b ≡ u → nearest_whole (of_bits binary64 b) ≡ half_up (significand u) (unit u)
    by_unit b is = by_significand b u is low high ∙ ap (half_up (significand u)) (sym unit_is)
