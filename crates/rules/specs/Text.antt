-- Document 01, "Depth text", in ASCII.
use Rattle.std.specs.Prelude.{ℕ, zero, suc, ◌+◌, ◌/◌, ◌%◌, cond, List, [], ◌∷◌, ◌++◌, length, ℤ, pos, negsuc, ltb, leb, eqb}

-- the decimal digits of n, the most significant first, with no zero in front; at most k of them
unfoldable pub digits_of : (k n : ℕ) → List ℕ
digits_of zero n = []
digits_of (suc k) n = cond (ltb n 10) ((48 + n) ∷ []) (digits_of k (n / 10) ++ ((48 + n % 10) ∷ []))

-- of a number below 10 ^ 20
unfoldable pub decimal : ℕ → List ℕ
decimal n = digits_of 20 n

-- "dry", "<1 cm" and " cm"
abbrev pub dry : List ℕ
dry = 100 ∷ 114 ∷ 121 ∷ []

abbrev pub under_one : List ℕ
under_one = 60 ∷ 49 ∷ 32 ∷ 99 ∷ 109 ∷ []

abbrev pub cm : List ℕ
cm = 32 ∷ 99 ∷ 109 ∷ []

-- 0: "dry". 1 to 9,999: "<1 cm". Above: floor((h + 5,000) / 10,000), decimal, then " cm". Out of range: no text.
unfoldable pub height_text : ℕ → List ℕ
height_text h = cond (eqb h 0) dry (cond (ltb h 10000) under_one (cond (leb h 50000000) (decimal ((h + 5000) / 10000) ++ cm) []))

unfoldable pub depth_text : ℤ → List ℕ
depth_text (pos h) = height_text h
depth_text (negsuc n) = []

-- what a room of k bytes takes of a text: all of it, or nothing where the room is shorter
unfoldable pub fitted : (text : List ℕ) (k : ℕ) → List ℕ
fitted text k = cond (leb (length text) k) text []
