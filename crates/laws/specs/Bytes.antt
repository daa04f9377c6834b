-- Numbers as bytes, of any width: how many bytes there are, and both ways there and back.
use Rattle.std.specs.Prelude.{ℕ, zero, suc, ◌+◌, ◌*◌, ◌/◌, ◌%◌, ◌^◌, ◌<◌, ◌≤◌, ◌≡◌, refl, List, [], ◌∷◌, ◌++◌, length, take, drop, get_or}
use Rattle.std.proofs.Common.{sym, ap, ap₂, ◌∙◌, append_assoc, pow-suc, div-add-mod', div-lt_iff_lt-mul, add-one, arith, length-append, take-suc, get_or-drop}
use Rattle.std.proofs.lemmas.List.{get_or_at}
use Rattle.rules.specs.Sheet.{Bytes, bytes_of, number_in}

pub bytes_drop : (n : ℕ) (l : List ℕ) → Bytes l → Bytes (drop n l)
bytes_drop n l b = record { below = λ i. rw (get_or-drop n l i 0) (b.below (n + i)) }

pub length-bytes : (k n : ℕ) → length (bytes_of k n) ≡ k
unfolding bytes_of
length-bytes zero n = refl
length-bytes (suc k) n = length-append (bytes_of k (n / 256)) ((n % 256) ∷ []) ∙ ap (λ (m : ℕ). m + 1) (length-bytes k (n / 256)) ∙ add-one k

-- a number that was written reads back, whatever stands behind it
pub number-bytes : (k n : ℕ) (rest : List ℕ) → n < 256 ^ k → number_in k (bytes_of k n ++ rest) ≡ n
unfolding bytes_of number_in
number-bytes zero n rest h = omega arith
number-bytes (suc k) n rest h =
    let q = bytes_of k (n / 256) in
    let e : (q ++ ((n % 256) ∷ [])) ++ rest ≡ q ++ ((n % 256) ∷ rest) = append_assoc q ((n % 256) ∷ []) rest in
    let low : n / 256 < 256 ^ k = (div-lt_iff_lt-mul {k = 256} (omega arith)).1 (rw pow-suc at h) in
    ap (λ (l : List ℕ). number_in k l * 256 + get_or l k 0) e
    ∙ ap₂ (λ (a b : ℕ). a * 256 + b) (number-bytes k (n / 256) ((n % 256) ∷ rest) low) (get_or_at q (n % 256) rest 0 k (length-bytes k (n / 256)))
    ∙ div-add-mod' n 256

-- bytes that were read write back
pub bytes-number : (k : ℕ) (l : List ℕ) → Bytes l → k ≤ length l → bytes_of k (number_in k l) ≡ take k l
unfolding bytes_of number_in
bytes-number zero l b h = refl
bytes-number (suc k) l b h =
    let c = b.below k in
    let high : (number_in k l * 256 + get_or l k 0) / 256 ≡ number_in k l = omega arith in
    let low : (number_in k l * 256 + get_or l k 0) % 256 ≡ get_or l k 0 = omega arith in
    ap₂ (λ (x y : ℕ). bytes_of k x ++ (y ∷ [])) high low
    ∙ ap (λ (x : List ℕ). x ++ (get_or l k 0 ∷ [])) (bytes-number k l b (omega arith))
    ∙ sym (take-suc l k 0 h)

pub number_lt : (k : ℕ) (l : List ℕ) → Bytes l → number_in k l < 256 ^ k
unfolding number_in
number_lt zero l b = omega arith
number_lt (suc k) l b = let c = b.below k in let h = number_lt k l b in rw pow-suc (omega arith)

-- for a loop: one byte more
pub number_more : (k : ℕ) (l : List ℕ) → number_in (k + 1) l ≡ number_in k l * 256 + get_or l k 0
unfolding number_in
number_more k l = rw add-one refl

pub number_none : (l : List ℕ) → number_in 0 l ≡ 0
unfolding number_in
number_none l = refl
