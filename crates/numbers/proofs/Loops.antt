-- One turn of each loop over bytes.
use Rattle.std.proofs.Common.{◌≡◌, ℕ, zero, suc, ◌+◌, ◌-◌, ◌*◌, ◌/◌, ◌%◌, ◌^◌, ◌<◌, ◌≤◌, List, length, take, drop, get_or, set}
use Rattle.std.proofs.Common.{sym, ap, ap₂, ◌∙◌, arith, add-one, pow-suc, length-drop, length-take-le, get_or-drop}
use native.Mathlib.Nat.{pow-le-pow_right}
use Rattle.std.proofs.lemmas.List.{get_or-take}
use Rattle.rules.specs.Sheet.{bytes_of, number_in}
use Rattle.laws.specs.Laid.{laid, laid_none, laid_last}
use Rattle.laws.specs.Bytes.{length-bytes, number_more}

-- ---- number: the bytes up to i are read

-- one byte more still fits
pub fits_more : (i n b : ℕ) → i < 4 → n < 256 ^ i → b < 256 → n * 256 + b < 4294967296
fits_more i n b h k l = let p : 256 ^ i ≤ 256 ^ 3 = pow-le-pow_right {n = 256} (omega arith) {i = i} {j = 3} (omega arith) in omega arith

pub below_more : (i n b : ℕ) → n < 256 ^ i → b < 256 → n * 256 + b < 256 ^ (i + 1)
below_more i n b h l = rw (add-one, pow-suc) (omega arith)

-- how many bytes `s[at..at + k]` has, and the byte of it at place i
pub part_length : (s : List ℕ) (at k : ℕ) → at + k ≤ length s → length (take (at + k - at) (drop at s)) ≡ k
part_length s at k h =
    let e : at + k - at ≡ k = omega arith in
    length-take-le (at + k - at) (drop at s) (omega (arith, length-drop at s)) ∙ e

pub part_byte : (s : List ℕ) (at k i : ℕ) → at + k ≤ length s → i < length (take (at + k - at) (drop at s)) → get_or (take (at + k - at) (drop at s)) i 0 ≡ get_or s (at + i) 0
part_byte s at k i h l = get_or-take (at + k - at) (drop at s) i 0 (omega (arith, part_length s at k h)) ∙ get_or-drop at s i 0

pub number_turn : (s : List ℕ) (at i n b : ℕ) → n ≡ number_in i (drop at s) → b ≡ get_or s (at + i) 0 → n * 256 + b ≡ number_in (i + 1) (drop at s)
number_turn s at i n b p q = ap₂ (λ (x y : ℕ). x * 256 + y) p (q ∙ sym (get_or-drop at s i 0)) ∙ sym (number_more i (drop at s))

-- ---- put_number: the first i bytes of `rest` are still to be laid

pub put_turn : (out done : List ℕ) (at i rest : ℕ) → 0 < i → at + i ≤ length out → laid out at (bytes_of i rest) ≡ done
    → laid (set out (at + (i - 1)) (rest % 256)) at (bytes_of (i - 1) (rest / 256)) ≡ done
unfolding bytes_of
put_turn out done at zero rest l h p = absurd (omega arith)
put_turn out done at (suc j) rest l h p =
    let e : suc j - 1 ≡ j = omega arith in
    ap (λ (x : ℕ). laid (set out (at + x) (rest % 256)) at (bytes_of x (rest / 256))) e
    ∙ laid_last out at (bytes_of j (rest / 256)) (rest % 256) (at + j) (ap (λ (x : ℕ). at + x) (sym (length-bytes j (rest / 256)))) (omega arith) ∙ p

pub put_end : (out done : List ℕ) (at i rest : ℕ) → i ≤ 0 → laid out at (bytes_of i rest) ≡ done → out ≡ done
unfolding bytes_of
put_end out done at zero rest h p = sym (laid_none out at) ∙ p
put_end out done at (suc j) rest h p = absurd (omega arith)
