-- Words of 32 bits in two's complement, as bytes: both ways there and back, one word and many.
use Rattle.std.specs.Prelude.{ℕ, zero, suc, ◌+◌, ◌*◌, ◌<◌, ◌≤◌, ◌≡◌, refl, List, [], ◌∷◌, ◌++◌, ℤ, pos, negsuc, length, take, drop, get_or}
use Rattle.std.proofs.Common.{sym, ap, ap₂, ◌∙◌, append_assoc, append-nil, zero-add, not-suc-le-zero, le_of_suc-le-suc, add-one, arith, length-append, length-drop, take-suc, take-add, drop-drop, drop_at, lt-ltb, le-ltb, le-leb, SFits, to_z, of_z}
use Rattle.std.proofs.Math.Path.{subst⁻¹}
use Rattle.std.specs.Int.{w32}
use mir.ValLaws.{to_z-of_z, of_z-to_z, of_z_fits, to_z-Fits}
use Rattle.rules.specs.Sheet.{Bytes, bytes_of, number_in, bits_of, value_of, words_bytes, words_in}
use Rattle.laws.specs.Bytes.{bytes_drop, length-bytes, number-bytes, bytes-number, number_lt}

-- ---- a word and its bits, which are the machine's

pub bits_is : (z : ℤ) → SFits w32 z → bits_of z ≡ of_z w32 z
unfolding bits_of
bits_is (pos n) f = rw (le-leb 0 n (omega arith))
bits_is (negsuc n) f = let h : n < 2147483648 = f.sfits in rw (le-ltb 4294967296 (suc n) (omega arith))

pub value_is : (b : ℕ) → b < 4294967296 → value_of b ≡ to_z w32 b
unfolding value_of
value_is b h = rw (lt-ltb b 4294967296 h)

pub value_fits_lem : (b : ℕ) → b < 4294967296 → SFits w32 (value_of b)
value_fits_lem b h = subst⁻¹ (SFits w32) (value_is b h) (to_z-Fits w32 b (record { fits = h }))

bits_lt : (z : ℤ) → SFits w32 z → bits_of z < 4294967296
bits_lt z f = subst⁻¹ (λ (n : ℕ). n < 4294967296) (bits_is z f) (of_z_fits w32 z f).fits

value_bits : (z : ℤ) → SFits w32 z → value_of (bits_of z) ≡ z
value_bits z f = value_is (bits_of z) (bits_lt z f) ∙ ap (to_z w32) (bits_is z f) ∙ to_z-of_z w32 z f

bits_value : (b : ℕ) → b < 4294967296 → bits_of (value_of b) ≡ b
bits_value b h = bits_is (value_of b) (value_fits_lem b h) ∙ ap (of_z w32) (value_is b h) ∙ of_z-to_z w32 b (record { fits = h })

-- ---- words as bytes

-- every element is a word of 32 bits
pub record Words (zs : List ℤ) : Type 0 where
  pub fit : (i : ℕ) → SFits w32 (get_or zs i (pos 0))

pub length_words : (zs : List ℤ) → length (words_bytes zs) ≡ 4 * length zs
unfolding words_bytes
length_words [] = refl
length_words (z ∷ zs) = length-append (bytes_of 4 (bits_of z)) (words_bytes zs) ∙ omega (arith, length-bytes 4 (bits_of z), length_words zs)

words_append : (xs ys : List ℤ) → words_bytes (xs ++ ys) ≡ words_bytes xs ++ words_bytes ys
unfolding words_bytes
words_append [] ys = refl
words_append (x ∷ xs) ys = ap (λ (l : List ℕ). bytes_of 4 (bits_of x) ++ l) (words_append xs ys) ∙ sym (append_assoc (bytes_of 4 (bits_of x)) (words_bytes xs) (words_bytes ys))

-- for a loop: none, and one more
pub words_none : words_bytes [] ≡ []
unfolding words_bytes
words_none = refl

one : (z : ℤ) → words_bytes (z ∷ []) ≡ bytes_of 4 (bits_of z)
unfolding words_bytes
one z = append-nil (bytes_of 4 (bits_of z))

pub words_more : (zs : List ℤ) (i : ℕ) → i < length zs → words_bytes (take (i + 1) zs) ≡ words_bytes (take i zs) ++ bytes_of 4 (bits_of (get_or zs i (pos 0)))
words_more zs i h =
    ap (λ (n : ℕ). words_bytes (take n zs)) (add-one i)
    ∙ ap words_bytes (take-suc zs i (pos 0) h)
    ∙ words_append (take i zs) (get_or zs i (pos 0) ∷ [])
    ∙ ap (λ (l : List ℕ). words_bytes (take i zs) ++ l) (one (get_or zs i (pos 0)))

-- ---- words in bytes

pub length_in : (n : ℕ) (l : List ℕ) → length (words_in n l) ≡ n
unfolding words_in
length_in zero l = refl
length_in (suc n) l = ap suc (length_in n (drop 4 l))

-- some words, and those behind them
in_add : (n m : ℕ) (l : List ℕ) → words_in (n + m) l ≡ words_in n l ++ words_in m (drop (4 * n) l)
unfolding words_in
in_add zero m l = ap (λ (k : ℕ). words_in k l) (zero-add m)
in_add (suc n) m l =
    let e : suc n + m ≡ suc (n + m) = omega arith in
    let f : 4 + 4 * n ≡ 4 * suc n = omega arith in
    ap (λ (k : ℕ). words_in k l) e
    ∙ ap (λ (r : List ℤ). value_of (number_in 4 l) ∷ r) (in_add n m (drop 4 l))
    ∙ ap (λ (r : List ℕ). value_of (number_in 4 l) ∷ (words_in n (drop 4 l) ++ words_in m r)) (drop-drop (4 * n) 4 l ∙ ap (λ (k : ℕ). drop k l) f)

-- for a loop: none, and one more
pub in_none : (l : List ℕ) → words_in 0 l ≡ []
unfolding words_in
in_none l = refl

one_in : (l : List ℕ) → words_in 1 l ≡ value_of (number_in 4 l) ∷ []
unfolding words_in
one_in l = refl

pub in_more : (n : ℕ) (l : List ℕ) → words_in (n + 1) l ≡ words_in n l ++ (value_of (number_in 4 (drop (4 * n) l)) ∷ [])
in_more n l = in_add n 1 l ∙ ap (λ (r : List ℤ). words_in n l ++ r) (one_in (drop (4 * n) l))

-- the word at place k of those that stand from index `at` on
unfoldable pub word_at : List ℕ → (at k : ℕ) → ℤ
word_at l at k = value_of (number_in 4 (drop (at + 4 * k) l))

place_in : (n : ℕ) (l : List ℕ) (k : ℕ) → k < n → get_or (words_in n l) k (pos 0) ≡ value_of (number_in 4 (drop (4 * k) l))
unfolding words_in
place_in zero l k h = absurd (not-suc-le-zero h)
place_in (suc n) l zero h = refl
place_in (suc n) l (suc k) h =
    let e : 4 + 4 * k ≡ 4 * suc k = omega arith in
    place_in n (drop 4 l) k (le_of_suc-le-suc h) ∙ ap (λ (r : List ℕ). value_of (number_in 4 r)) (drop-drop (4 * k) 4 l ∙ ap (λ (i : ℕ). drop i l) e)

pub get_d_in : (n : ℕ) (l : List ℕ) (at k : ℕ) → k < n → get_or (words_in n (drop at l)) k (pos 0) ≡ word_at l at k
unfolding word_at
get_d_in n l at k h = place_in n (drop at l) k h ∙ ap (λ (r : List ℕ). value_of (number_in 4 r)) (drop-drop (4 * k) at l)

-- ---- there and back

-- words that were written read back, whatever stands behind them
pub words_read : (zs : List ℤ) (rest : List ℕ) → Words zs → words_in (length zs) (words_bytes zs ++ rest) ≡ zs
unfolding words_in words_bytes
words_read [] rest w = refl
words_read (z ∷ zs) rest w =
    let b = bytes_of 4 (bits_of z) in
    let r = words_bytes zs ++ rest in
    let e : (b ++ words_bytes zs) ++ rest ≡ b ++ r = append_assoc b (words_bytes zs) rest in
    let p : value_of (number_in 4 ((b ++ words_bytes zs) ++ rest)) ≡ z =
    ap (λ (l : List ℕ). value_of (number_in 4 l)) e ∙ ap value_of (number-bytes 4 (bits_of z) r (bits_lt z (w.fit 0))) ∙ value_bits z (w.fit 0) in
    let q : words_in (length zs) (drop 4 ((b ++ words_bytes zs) ++ rest)) ≡ zs =
    ap (λ (l : List ℕ). words_in (length zs) (drop 4 l)) e
    ∙ ap (words_in (length zs)) (drop_at b r 4 (length-bytes 4 (bits_of z)))
    ∙ words_read zs rest (record { fit = λ i. w.fit (suc i) }) in
    ap₂ (λ (x : ℤ) (xs : List ℤ). x ∷ xs) p q

-- bytes that were read as words write back
pub words_write : (n : ℕ) (l : List ℕ) → Bytes l → 4 * n ≤ length l → words_bytes (words_in n l) ≡ take (4 * n) l
unfolding words_in words_bytes
words_write zero l b h = refl
words_write (suc n) l b h =
    let e : 4 * suc n ≡ 4 + 4 * n = omega arith in
    let h₁ : 4 ≤ length l = omega arith in
    let h₂ : 4 * n ≤ length (drop 4 l) = rw (length-drop 4 l) (omega arith) in
    let p : bytes_of 4 (bits_of (value_of (number_in 4 l))) ≡ take 4 l = ap (bytes_of 4) (bits_value (number_in 4 l) (number_lt 4 l b)) ∙ bytes-number 4 l b h₁ in
    ap₂ (λ (x y : List ℕ). x ++ y) p (words_write n (drop 4 l) (bytes_drop 4 l b) h₂) ∙ sym (take-add 4 (4 * n) l) ∙ ap (λ (m : ℕ). take m l) (sym e)
