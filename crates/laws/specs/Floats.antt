-- Floats of which the sign of a 0, or a 0 that is added or taken away, tells nothing: a float that its format holds compares as it did.
use Rattle.std.specs.Prelude.{◌≡◌, Bool, not, ◌&&◌, ◌||◌, T, leb, ltb, eqb, ℤ, pos, negsuc, Float}
use Rattle.std.proofs.Math.Path.{refl, sym, ap}
use Rattle.std.proofs.Common.{◌∙◌, subst, one-mul, mul_comm, zero-add, add-zero, mul-pos, zero-lt-suc, lt_of_mul-lt-mul_right, lt_irrefl, lt_of_lt_of_le, arith, leb→le, ltb→lt, pow-add, pow_pos, lt-ltb, le-ltb, leb-false}
use Rattle.std.proofs.Math.Bool.{true, false, cond, and_self, and-true}
use Prim.Native.Nat.{ℕ, zero, suc, ◌+◌, ◌-◌, ◌*◌, ◌/◌, ◌%◌, ◌^◌, ◌≤◌, ◌<◌, zero-le}
use Rattle.std.proofs.Math.Nat.{mul-one, mul_assoc, mul_right_comm, zero-mul, sub-zero, mul-lt-mul_of_pos_right}
use Rattle.std.proofs.Math.Pow.{pow-lt}
use Rattle.std.specs.Float.Ieee.{nan, prec, emax, low, hid, top, up, down, size, round, sum, add, neg, sub, lt, le, eq, fits, of_bits, to_bits}
use Rattle.std.specs.Float.{inf, fin, Format, binary64}
use Rattle.std.specs.Float.Ieee.Exact.{HasValue, round_exact}
use Rattle.std.specs.Float.Ieee.Fits.{up_pos, down_pos, round-fits}
use Rattle.std.specs.Float.Ieee.Bits.{of_bits-to_bits}
use Rattle.std.specs.Float.Ieee.Nearest.{div_same}
use Rattle.laws.specs.Tests.{four_of, to_T}

-- ---- The sign of 0 changes no test

at_zero : (e d : ℤ) → 0 * up e * down d ≡ 0
at_zero e d = ap (λ (k : ℕ). k * down d) (zero-mul (up e)) ∙ zero-mul (down d)

not_below_zero : (b : ℕ) → ltb b 0 ≡ false
not_below_zero b = le-ltb b 0 zero-le

twice : (a : Bool) → (a && a) ≡ (a && true)
twice a = and_self a ∙ sym (and-true a)

zero_low : (e : ℤ) (v : Float) → le (fin true 0 e) v ≡ le (fin false 0 e) v
unfolding le lt eq
zero_low e nan = refl
zero_low e (inf s) = refl
zero_low e (fin false k d) = rw (at_zero e d, zero-add (k * up d * down e))
zero_low e (fin true k d) = rw (at_zero e d, not_below_zero (k * up d * down e))

zero_high : (e : ℤ) (v : Float) → le v (fin true 0 e) ≡ le v (fin false 0 e)
unfolding le lt eq
zero_high e nan = refl
zero_high e (inf s) = refl
zero_high e (fin false k d) = rw (at_zero e d, not_below_zero (k * up d * down e)) (twice (eqb (k * up d * down e) 0))
zero_high e (fin true k d) = rw (at_zero e d, add-zero (k * up d * down e)) (ap (λ (t : Bool). ltb 0 (k * up d * down e) || t) (sym (twice (eqb (k * up d * down e) 0))))

-- ---- Two floats that no test tells apart

pub record Alike (x y : Float) : Type 0 where
  pub low : (v : Float) → le x v ≡ le y v
  pub high : (v : Float) → le v x ≡ le v y

pub alike : (x : Float) → Alike x x
alike x = record { low = λ v. refl; high = λ v. refl }

as_equal : {x y : Float} → x ≡ y → Alike x y
as_equal e = record { low = λ v. ap (λ z. le z v) e; high = λ v. ap (λ z. le v z) e }

through : {x y z : Float} → Alike x y → Alike y z → Alike x z
through a b = record { low = λ v. a.low v ∙ b.low v; high = λ v. a.high v ∙ b.high v }

back : {x y : Float} → Alike x y → Alike y x
back a = record { low = λ v. sym (a.low v); high = λ v. sym (a.high v) }

pub zero_alike : (e : ℤ) → Alike (fin true 0 e) (fin false 0 e)
zero_alike e = record { low = zero_low e; high = zero_high e }

-- -0 and 0 make 0, and any other float stays what it is
abbrev pub unsigned_zero : Float → Float
unsigned_zero nan = nan
unsigned_zero (inf s) = inf s
unsigned_zero (fin false m e) = fin false m e
unsigned_zero (fin true zero e) = fin false zero e
unsigned_zero (fin true (suc m) e) = fin true (suc m) e

unsigned_alike : (x : Float) → Alike (unsigned_zero x) x
unsigned_alike nan = alike nan
unsigned_alike (inf s) = alike (inf s)
unsigned_alike (fin false m e) = alike (fin false m e)
unsigned_alike (fin true zero e) = back (zero_alike e)
unsigned_alike (fin true (suc m) e) = alike (fin true (suc m) e)

-- ---- What a format holds rounds to itself

module _ (f : Format) where
  -- the power of two by which the smallest value of the format is multiplied
  record Power (e : ℤ) : Type 0 where
    j : ℕ
    is : 2 ^ j * down e ≡ up e * 2 ^ low f

  power : (e : ℤ) → down e ≤ 2 ^ low f → Power e
  power (pos k) h = record { j = k + low f; is = mul-one (2 ^ (k + low f)) ∙ pow-add 2 k (low f) }
  power (negsuc k) h =
      let far : suc k ≤ low f = go (leb (suc k) (low f)) refl in
      record { j = low f - suc k; is = sym (pow-add 2 (low f - suc k) (suc k)) ∙ ap (λ (n : ℕ). 2 ^ n) (omega arith) ∙ sym (one-mul (2 ^ low f)) }
    where
      go : (b : Bool) → leb (suc k) (low f) ≡ b → suc k ≤ low f
      go true e = leb→le (suc k) (low f) (to_T e)
      go false e = absurd (lt_irrefl (2 ^ low f) (lt_of_lt_of_le (pow-lt (leb-false (suc k) (low f) e)) h))

  module _ (s : Bool) where
    exact : (m : ℕ) (e : ℤ) → T (fits f (fin s m e)) → HasValue (round f s (m * up e) (down e)) s (m * up e) (down e)
    unfolding fits
    exact zero e h =
        round_exact f s (0 * up e) (down e) 0 0 (down_pos e) (pow_pos (prec f)) (pow_pos (low f + suc (emax f)))
        (ap (λ (n : ℕ). n * 2 ^ low f) (zero-mul (up e)) ∙ zero-mul (2 ^ low f) ∙ sym (zero-mul (down e)))
    exact (suc m) e h =
        let held = four_of (eqb (suc m % 2) 1) (ltb (suc m) (2 ^ prec f)) (leb (down e) (2 ^ low f)) (ltb (suc m * up e) (2 ^ suc (emax f) * down e)) h in
        let p = power e (leb→le (down e) (2 ^ low f) held.three) in
        let is : suc m * up e * 2 ^ low f ≡ suc m * 2 ^ p.j * down e = mul_assoc (suc m) (up e) (2 ^ low f) ∙ ap (λ (n : ℕ). suc m * n) (sym p.is) ∙ sym (mul_assoc (suc m) (2 ^ p.j) (down e)) in
        let below : suc m * up e * 2 ^ low f < 2 ^ suc (emax f) * down e * 2 ^ low f = mul-lt-mul_of_pos_right (ltb→lt (suc m * up e) (2 ^ suc (emax f) * down e) held.four) (pow_pos (low f)) in
        let under : 2 ^ suc (emax f) * down e * 2 ^ low f ≡ 2 ^ (low f + suc (emax f)) * down e =
        mul_right_comm (2 ^ suc (emax f)) (down e) (2 ^ low f) ∙ ap (λ (n : ℕ). n * down e) (mul_comm (2 ^ suc (emax f)) (2 ^ low f) ∙ sym (pow-add 2 (low f) (suc (emax f)))) in
        round_exact f s (suc m * up e) (down e) (suc m) p.j (down_pos e)
        (ltb→lt (suc m) (2 ^ prec f) held.two)
        (lt_of_mul-lt-mul_right (down e) (subst (λ (n : ℕ). n < 2 ^ (low f + suc (emax f)) * down e) is (subst (λ (n : ℕ). suc m * up e * 2 ^ low f < n) under below)))
        is

    -- two floats that the format holds, of one sign and one size, are one
    one_float : (x : Float) (m : ℕ) (e : ℤ) → T (fits f x) → T (fits f (fin s m e)) → HasValue x s (m * up e) (down e) → x ≡ fin s m e
    unfolding to_bits
    one_float nan m e g h v = absurd v
    one_float (inf t) m e g h v = absurd v
    one_float (fin t k d) m e g h v =
        let size_is : k * up d * 2 ^ low f / down d ≡ m * up e * 2 ^ low f / down e =
        div_same (k * up d * 2 ^ low f) (down d) (m * up e * 2 ^ low f) (down e) (down_pos d) (down_pos e)
        (mul_right_comm (k * up d) (2 ^ low f) (down e) ∙ ap (λ (n : ℕ). n * 2 ^ low f) v.1 ∙ mul_right_comm (m * up e) (down d) (2 ^ low f)) in
        let bits : to_bits f (fin t k d) ≡ to_bits f (fin s m e) =
        ap (λ (b : Bool). to_bits f (fin b k d)) v.0 ∙ ap (λ (n : ℕ). cond s (top f) 0 + (size n - prec f) * hid f + n / 2 ^ (size n - prec f)) size_is in
        sym (of_bits-to_bits f (fin t k d) g) ∙ ap (of_bits f) bits ∙ of_bits-to_bits f (fin s m e) h

    round_own : (m : ℕ) (e : ℤ) → T (fits f (fin s m e)) → round f s (m * up e) (down e) ≡ fin s m e
    round_own m e h = one_float (round f s (m * up e) (down e)) m e (round-fits f s (m * up e) (down e)) h (exact m e h)

  -- ---- 0 added or taken away

  same_sign : (s : Bool) (a c : ℕ) → sum f s a s 0 c ≡ round f s a c
  unfolding sum
  same_sign true a c = ap (λ (n : ℕ). round f true n c) (add-zero a)
  same_sign false a c = ap (λ (n : ℕ). round f false n c) (add-zero a)

  -- a sum that is 0 has no sign
  other_sign : (s : Bool) (a c : ℕ) → sum f s a (not s) 0 c ≡ round f (s && ltb 0 a) a c
  unfolding sum
  other_sign true a c = rw (not_below_zero a) (ap (λ (n : ℕ). round f (ltb 0 a) n c) (sub-zero a))
  other_sign false a c = rw (not_below_zero a) (ap (λ (n : ℕ). round f false n c) (sub-zero a))

  minus_zero_lem : (s : Bool) (a c : ℕ) → sum f s a true 0 c ≡ round f s a c
  minus_zero_lem true a c = same_sign true a c
  minus_zero_lem false a c = other_sign false a c

  less_zero : (x : Float) → T (fits f x) → sub f x (fin false 0 (pos 0)) ≡ x
  unfolding sub neg add
  less_zero nan h = refl
  less_zero (inf s) h = refl
  less_zero (fin s m e) h = rw (at_zero (pos 0) e, mul-one (m * up e), mul-one (down e)) (minus_zero_lem s (m * up e) (down e) ∙ round_own s m e h)

  plus_zero_lem : (s : Bool) (m : ℕ) (e : ℤ) → add f (fin s m e) (fin false 0 (pos 0)) ≡ sum f s (m * up e) false 0 (down e)
  unfolding add
  plus_zero_lem s m e = rw (at_zero (pos 0) e, mul-one (m * up e), mul-one (down e))

  plus_zero_is : (x : Float) → T (fits f x) → add f x (fin false 0 (pos 0)) ≡ unsigned_zero x
  unfolding add fits
  plus_zero_is nan h = refl
  plus_zero_is (inf s) h = refl
  plus_zero_is (fin false m e) h = plus_zero_lem false m e ∙ same_sign false (m * up e) (down e) ∙ round_own false m e h
  plus_zero_is (fin true zero e) h =
      plus_zero_lem true 0 e ∙ other_sign true (0 * up e) (down e) ∙ ap (λ (b : Bool). round f b (0 * up e) (down e)) (ap (ltb 0) (zero-mul (up e))) ∙ round_own false 0 e h
  plus_zero_is (fin true (suc m) e) h =
      plus_zero_lem true (suc m) e ∙ other_sign true (suc m * up e) (down e) ∙ ap (λ (b : Bool). round f b (suc m * up e) (down e)) (lt-ltb 0 (suc m * up e) (mul-pos (zero-lt-suc m) (up_pos e))) ∙ round_own true (suc m) e h

-- a literal 0.0 added; and added to what no test tells from y, or taken from it
pub plus_nothing_is : (x : Float) → T (fits binary64 x) → add binary64 x (of_bits binary64 0) ≡ unsigned_zero x
unfolding of_bits
plus_nothing_is x h = plus_zero_is binary64 x h

pub plus_nothing : {x y : Float} → T (fits binary64 x) → Alike x y → Alike (add binary64 x (of_bits binary64 0)) y
plus_nothing {x} h a = through (as_equal (plus_nothing_is x h)) (through (unsigned_alike x) a)

pub minus_nothing : {x y : Float} → T (fits binary64 x) → Alike x y → Alike (sub binary64 x (of_bits binary64 0)) y
unfolding of_bits
minus_nothing {x} h a = through (as_equal (less_zero binary64 x h)) a
