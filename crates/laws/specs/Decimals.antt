-- Decimal digits: one digit, one digit more, and how many there are.
use Rattle.std.specs.Prelude.{◌≡◌, Bool, true, false, cond, List, [], ◌∷◌, ◌++◌, ℕ, zero, suc, ◌+◌, ◌*◌, ◌/◌, ◌%◌, ◌^◌, ◌≤◌, ◌<◌, length, ltb}
use Rattle.std.proofs.Common.{sym, ap, ◌∙◌, zero-le, pow-suc, add-suc, add-zero, arith, length-append, lt-ltb, le-ltb}
use Rattle.std.proofs.Math.Nat.{pow-le-pow_right}
use Rattle.rules.specs.Text.{digits_of, decimal}

tenth : (n k : ℕ) → n < 10 ^ suc k → n / 10 < 10 ^ k
tenth n k h = let l : n < 10 ^ k * 10 = rw (pow-suc 10 k) at h in omega arith

-- a number with at most k + 1 digits has the same digits where more are allowed
digits_enough : (k n : ℕ) → n < 10 ^ suc k → digits_of (suc (suc k)) n ≡ digits_of (suc k) n
unfolding digits_of
digits_enough zero n h = rw (lt-ltb n 10 h)
digits_enough (suc k) n h = ap (λ (l : List ℕ). cond (ltb n 10) ((48 + n) ∷ []) (l ++ ((48 + n % 10) ∷ []))) (digits_enough k (n / 10) (tenth n (suc k) h))

digits_more : (m k n : ℕ) → n < 10 ^ suc k → digits_of (suc (k + m)) n ≡ digits_of (suc k) n
digits_more zero k n h = rw (add-zero k)
digits_more (suc m) k n h =
    let up : 10 ^ suc k ≤ 10 ^ suc (k + m) = pow-le-pow_right {n = 10} (omega arith) {i = suc k} {j = suc (k + m)} (omega arith) in
    rw (add-suc k m) (digits_enough (k + m) n (omega arith) ∙ digits_more m k n h)

-- at most as many as are allowed
length_digits : (k n : ℕ) → length (digits_of k n) ≤ k
unfolding digits_of
length_digits zero n = zero-le
length_digits (suc k) n = pick (ltb n 10) (length_digits k (n / 10))
  where
    pick : (b : Bool) → length (digits_of k (n / 10)) ≤ k → length (cond b ((48 + n) ∷ []) (digits_of k (n / 10) ++ ((48 + n % 10) ∷ []))) ≤ suc k
    pick true h = omega arith
    pick false h = rw (length-append (digits_of k (n / 10)) ((48 + n % 10) ∷ [])) (omega arith)

-- one digit
pub decimal_one : (n : ℕ) → n < 10 → decimal n ≡ (48 + n) ∷ []
unfolding decimal digits_of
decimal_one n h = rw (lt-ltb n 10 h)

last_digit : (k n : ℕ) → 10 ≤ n → digits_of (suc k) n ≡ digits_of k (n / 10) ++ ((48 + n % 10) ∷ [])
unfolding digits_of
last_digit k n l = rw (le-ltb n 10 l)

-- one digit more
pub decimal_more : (n : ℕ) → 10 ≤ n → n < 10 ^ 19 → decimal n ≡ decimal (n / 10) ++ ((48 + n % 10) ∷ [])
unfolding decimal
decimal_more n l h = last_digit 19 n l ∙ ap (λ (d : List ℕ). d ++ ((48 + n % 10) ∷ [])) (sym (digits_enough 18 (n / 10) (omega arith)))

-- a number below 10 ^ (k + 1) has at most k + 1 digits
pub length-decimal : (k m n : ℕ) → k + m ≡ 19 → n < 10 ^ suc k → length (decimal n) ≤ suc k
unfolding decimal
length-decimal k m n e h =
    let same : digits_of 20 n ≡ digits_of (suc k) n = ap (λ (j : ℕ). digits_of (suc j) n) (sym e) ∙ digits_more m k n h in
    rw same (length_digits (suc k) n)
