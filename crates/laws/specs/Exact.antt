-- Signed machine arithmetic that never wraps, by bounds on the size, as trees that follow the code.
-- A `Node w` is one operation of the code on integers of width w, or a value that comes in: the machine's expression `raw`, which reads each operand back
-- from a local as `to_z w (of_z w ..)`; the number `z` that it is; a bound N on |z|; and that N fits the width, which at closed numbers is `tt`.
--     int, nat, lit, result       where a tree starts: a parameter or a field, an unsigned number cast to signed, a literal, what a call returned
--     add, sub, neg, mul, quot    one for each operation; `neg` is 0 - x
--     cast                        from i32 to i64
--     fits                        the need of the operation
--     divides                     the need of a division
--     value                       what is read back from the local is z
--     within                      what a callee that is handed the local requires
-- Each start and operation is an `abbrev`, so that `fits t` computes to the need and `value t` to the equation with the definition.
use Rattle.std.specs.Prelude.{ℕ, ◌+◌, ◌*◌, ◌≤◌, ◌<◌, ◌^◌, ◌≡◌, refl, true, false, T, eqb, ltb, ℤ, pos, negsuc, neg_ℤ, nat_abs, ◌+ℤ◌, ◌-ℤ◌, ◌*ℤ◌}
use Rattle.std.proofs.Common.{sym, ap, ◌∙◌, subst, le_trans, le_refl, mul-le-mul, div-le_self, lt_of_le_of_lt, add-le-add, le_of_eq, arith, eq-eqb, ne_eqb, eqb→eq, ltb→lt, pow_pos, to_z-of_z}
use Rattle.std.proofs.Math.IntN.{+ℤ_idl}
use Rattle.std.specs.Int.Signed.{quot_z, non_neg}
use Rattle.std.specs.Int.{Width, w32, w64}
use mir.Val.{Fits, SFits, to_z, of_z, hbits}
use Rattle.laws.specs.Tests.{both_ways, to_T}
use Rattle.laws.specs.Numbers.{no_size, zero_is, abs_neg}
use Rattle.laws.specs.Sizes.{Within, nat_abs-add, nat_abs_mul, nat_abs-quot, mag_le}

pub record Node (w : Width) : Type 0 where
  pub raw : ℤ
  pub z : ℤ
  pub N : ℕ
  pub is : raw ≡ z
  pub small : nat_abs z ≤ N
  pub room : T (ltb N (2 ^ hbits w))

-- z fits, by its bound
pub sfits : (w : Width) {z : ℤ} {N : ℕ} → Within N z → T (ltb N (2 ^ hbits w)) → SFits w z
sfits w {z} {N} h t = record { sfits = lt_of_le_of_lt (mag_le z) (lt_of_le_of_lt h.size (ltb→lt N (2 ^ hbits w) t)) }

pub fits : {w : Width} (t : Node w) → SFits w t.raw
fits {w} t = subst (SFits w) (sym t.is) (sfits w (record { size = t.small }) t.room)

-- what the local reads back
abbrev pub read : {w : Width} → Node w → ℤ
read {w} t = to_z w (of_z w t.raw)

pub value : {w : Width} (t : Node w) → read t ≡ t.z
value t = to_z-of_z (fits t) ∙ t.is

-- ---- where a tree starts

abbrev pub int : {w : Width} {N : ℕ} {z : ℤ} → Within N z → T (ltb N (2 ^ hbits w)) → Node w
int {N} {z} h t = record { raw = z; z = z; N = N; is = refl; small = h.size; room = t }

-- what a call returned, or another value that is known to be z
abbrev pub result : {w : Width} {N : ℕ} {r z : ℤ} → r ≡ z → Within N z → T (ltb N (2 ^ hbits w)) → Node w
result {N} {r} {z} e h t = record { raw = r; z = z; N = N; is = e; small = h.size; room = t }

abbrev pub nat : {w : Width} {N n : ℕ} → n ≤ N → T (ltb N (2 ^ hbits w)) → Node w
nat {N} {n} h t = record { raw = pos n; z = pos n; N = N; is = refl; small = h; room = t }

abbrev pub lit : {w : Width} (n : ℕ) → T (ltb n (2 ^ hbits w)) → Node w
lit n t = nat (le_refl n) t

-- ---- operations

pub both : {w : Width} (f : ℤ → ℤ → ℤ) (a b : Node w) → f (read a) (read b) ≡ f a.z b.z
both f a b = ap (λ (x : ℤ). f x (read b)) (value a) ∙ ap (λ (x : ℤ). f a.z x) (value b)

abbrev pub add : {w : Width} (a b : Node w) → T (ltb (a.N + b.N) (2 ^ hbits w)) → Node w
add a b t = record {
  raw = read a +ℤ read b;
  z = a.z +ℤ b.z;
  N = a.N + b.N;
  is = both (λ (x y : ℤ). x +ℤ y) a b;
  small = le_trans (nat_abs-add a.z b.z) (add-le-add a.small b.small);
  room = t;
}

abbrev pub sub : {w : Width} (a b : Node w) → T (ltb (a.N + b.N) (2 ^ hbits w)) → Node w
sub a b t = record {
  raw = read a -ℤ read b;
  z = a.z -ℤ b.z;
  N = a.N + b.N;
  is = both (λ (x y : ℤ). x -ℤ y) a b;
  small = le_trans (nat_abs-add a.z (neg_ℤ b.z)) (add-le-add a.small (le_trans (le_of_eq (abs_neg b.z)) b.small));
  room = t;
}

abbrev pub neg : {w : Width} → Node w → Node w
neg a = record {
  raw = pos 0 -ℤ read a;
  z = neg_ℤ a.z;
  N = a.N;
  is = +ℤ_idl (neg_ℤ (read a)) ∙ ap neg_ℤ (value a);
  small = le_trans (le_of_eq (abs_neg a.z)) a.small;
  room = a.room;
}

abbrev pub mul : {w : Width} (a b : Node w) → T (ltb (a.N * b.N) (2 ^ hbits w)) → Node w
mul a b t = record {
  raw = read a *ℤ read b;
  z = a.z *ℤ b.z;
  N = a.N * b.N;
  is = both (λ (x y : ℤ). x *ℤ y) a b;
  small = le_trans (le_of_eq (nat_abs_mul a.z b.z)) (mul-le-mul a.small b.small);
  room = t;
}

abbrev pub quot : {w : Width} (a b : Node w) → Node w
quot a b = record {
  raw = quot_z (read a) (read b);
  z = quot_z a.z b.z;
  N = a.N;
  is = both quot_z a b;
  small = le_trans (le_of_eq (nat_abs-quot a.z b.z)) (le_trans (div-le_self (nat_abs a.z) (nat_abs b.z)) a.small);
  room = a.room;
}

abbrev pub cast : (a : Node w32) → T (ltb a.N (2 ^ 63)) → Node w64
cast a t = record { raw = read a; z = a.z; N = a.N; is = value a; small = a.small; room = t }

-- ---- tests for 0, which compare the bits

zero_bits : (w : Width) → to_z w 0 ≡ pos 0
zero_bits w = to_z-of_z {w = w} (record { sfits = pow_pos (hbits w) })

no_bits : {w : Width} {z : ℤ} → SFits w z → of_z w z ≡ 0 → z ≡ pos 0
no_bits {w} fit e = sym (to_z-of_z fit) ∙ ap (to_z w) e ∙ zero_bits w

pub is_zero_lem : {w : Width} (t : Node w) → of_z w t.raw ≡ 0 → t.z ≡ pos 0
is_zero_lem t e = sym t.is ∙ no_bits (fits t) e

not_zero : {w : Width} (t : Node w) → (of_z w t.raw ≡ 0 → ⊥) → nat_abs t.z ≡ 0 → ⊥
not_zero {w} t f e = f (ap (of_z w) (t.is ∙ no_size t.z e))

-- what the test says of z, taken and left
pub says_zero : {w : Width} (t : Node w) → of_z w t.raw ≡ 0 → eqb (nat_abs t.z) 0 ≡ true
says_zero t e = eq-eqb (nat_abs t.z) 0 (ap nat_abs (is_zero_lem t e))

pub says_other : {w : Width} (t : Node w) → (of_z w t.raw ≡ 0 → ⊥) → eqb (nat_abs t.z) 0 ≡ false
says_other t f = ne_eqb (nat_abs t.z) 0 (not_zero t f)

-- the test itself
pub zero_test : {w : Width} {z : ℤ} → SFits w z → eqb (of_z w z) 0 ≡ eqb (nat_abs z) 0
zero_test {w} {z} fit =
    both_ways (eqb (of_z w z) 0) (eqb (nat_abs z) 0)
    (λ t. to_T (eq-eqb (nat_abs z) 0 (ap nat_abs (no_bits fit (eqb→eq (of_z w z) 0 t)))))
    (λ t. to_T (eq-eqb (of_z w z) 0 (ap (of_z w) (zero_is z t))))

-- the bits of a number other than 0 are not 0
bits_above : (z : ℤ) → nat_abs z < 2 ^ 63 → 0 < nat_abs z → 0 < of_z w64 z
bits_above (pos n) k h = h
bits_above (negsuc n) k h = omega arith

pub divides : (a b : Node w64) → 0 < nat_abs b.z → (0 < of_z w64 b.raw) × SFits w64 (quot a b).raw
divides a b h =
    (subst (λ (y : ℤ). 0 < of_z w64 y) (sym b.is) (bits_above b.z (lt_of_le_of_lt b.small (ltb→lt b.N (2 ^ 63) b.room)) h), fits (quot a b))

-- ---- calls: what is required of a local that is handed on, and what was returned for it

pub within : {w : Width} (t : Node w) → Within t.N (read t)
within t = record { size = subst (λ (y : ℤ). nat_abs y ≤ t.N) (sym (value t)) t.small }

-- what a call returned for a local, as what it is for the number that the local holds
pub called : {w : Width} (f : ℤ → ℤ) (a : Node w) {r : ℤ} → r ≡ f (read a) → r ≡ f a.z
called f a e = e ∙ ap f (value a)

-- a fact of z, at the local that holds z
pub passed : {w : Width} (Q : ℤ → Type 0) (t : Node w) → Q t.z → Q (read t)
passed Q t q = subst Q (sym (value t)) q

-- the need of a cast to u64 of a number that is not below 0
pub unsigned : {w : Width} (t : Node w) → T (ltb t.N (2 ^ 64)) → T (non_neg t.z) → T (non_neg (read t)) × Fits w64 (nat_abs (read t))
unsigned t r h =
    (passed (λ (y : ℤ). T (non_neg y)) t h, record { fits = passed (λ (y : ℤ). nat_abs y < 2 ^ 64) t (lt_of_le_of_lt t.small (ltb→lt t.N (2 ^ 64) r)) })
