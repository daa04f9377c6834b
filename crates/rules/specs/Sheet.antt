-- Document 01, "The site sheet": the bytes of a site, and what is read of some bytes.
use Rattle.std.specs.Prelude.{ℕ, zero, suc, ◌+◌, ◌*◌, ◌/◌, ◌%◌, ◌<◌, Bool, true, cond, ◌&&◌, List, [], ◌∷◌, ◌++◌, length, get_or, drop, ℤ, pos, nat_abs, ◌+ℤ◌, ◌-ℤ◌, ltb, leb, eqb}
use Rattle.std.specs.Int.Signed.{le_z}
use Rattle.rules.specs.declared.Card.{Card}
use Rattle.rules.specs.Site.{cells, state_length, check_also}

-- ---- Numbers and words as bytes, big-endian

-- the bytes given, a list of numbers: each of them is below 256 (only promises ask for it; a slice of bytes has it)
pub record Bytes (l : List ℕ) : Type 0 where
  pub below : (i : ℕ) → get_or l i 0 < 256

-- a number in k bytes, the most significant first, and the number in the first k bytes
unfoldable pub bytes_of : (k n : ℕ) → List ℕ
bytes_of zero n = []
bytes_of (suc k) n = bytes_of k (n / 256) ++ ((n % 256) ∷ [])

unfoldable pub number_in : (k : ℕ) → List ℕ → ℕ
number_in zero l = 0
number_in (suc k) l = number_in k l * 256 + get_or l k 0

-- a word in two's complement: a z that is not negative is written as itself, a negative z as 2^32 + z (of a 32-bit word neither is below 0, and `nat_abs` only
-- makes a natural number of it); so a number from 2^31 on stands for itself less 2^32
unfoldable pub bits_of : ℤ → ℕ
bits_of z = nat_abs (cond (le_z (pos 0) z) z (pos 4294967296 +ℤ z))

unfoldable pub value_of : ℕ → ℤ
value_of b = cond (ltb b 2147483648) (pos b) (pos b -ℤ pos 4294967296)

-- words one after the other, and the first n words of some bytes
unfoldable pub words_bytes : List ℤ → List ℕ
words_bytes [] = []
words_bytes (z ∷ zs) = bytes_of 4 (bits_of z) ++ words_bytes zs

unfoldable pub words_in : ℕ → List ℕ → List ℤ
words_in zero l = []
words_in (suc n) l = value_of (number_in 4 l) ∷ words_in n (drop 4 l)

-- ---- The sheet of a site

unfoldable pub sheet_size : Card → ℕ
sheet_size c = 19 + 16 * cells c + 4 * c.columns + 4 * c.rows

-- length of the whole sheet (4 bytes), version 1 (1), columns (1), rows (1), dx (4), dy (4), dt (2), steps wanted (2)
unfoldable pub header : Card → List ℕ
header c =
    bytes_of 4 (sheet_size c)
    ++ (bytes_of 1 1
    ++ (bytes_of 1 c.columns
    ++ (bytes_of 1 c.rows
    ++ (bytes_of 4 c.dx
    ++ (bytes_of 4 c.dy
    ++ (bytes_of 2 c.dt
    ++ bytes_of 2 c.steps))))))

unfoldable pub sheet_of : Card → (land state : List ℤ) → List ℕ
sheet_of c g s = header c ++ (words_bytes g ++ words_bytes s)

-- ---- What is read of some bytes

unfoldable pub card_in : List ℕ → Card
card_in l = record {
  columns = number_in 1 (drop 5 l);
  rows = number_in 1 (drop 6 l);
  dx = number_in 4 (drop 7 l);
  dy = number_in 4 (drop 11 l);
  dt = number_in 2 (drop 15 l);
  steps = number_in 2 (drop 17 l);
}

unfoldable pub ground_in : List ℕ → List ℤ
ground_in l = words_in (cells (card_in l)) (drop 19 l)

unfoldable pub state_in : List ℕ → List ℤ
state_in l = words_in (state_length (card_in l)) (drop (19 + 4 * cells (card_in l)) l)

-- 9: shorter than 19 bytes, length field not the bytes given, or version not 1
unfoldable pub head_fits : List ℕ → Bool
head_fits l = leb 19 (length l) && eqb (number_in 4 l) (length l) && eqb (number_in 1 (drop 4 l)) 1

-- 2: not the size for its columns and rows, or a lent list, of n words for the ground and m for the state, of another length
unfoldable pub sheet_lengths_fit : List ℕ → (n m : ℕ) → Bool
sheet_lengths_fit l n m = eqb (length l) (sheet_size (card_in l)) && eqb n (cells (card_in l)) && eqb m (state_length (card_in l))

-- the reader's number: 9 first, then 1, 2 and 3 of the site that stands in the bytes
unfoldable pub read_number : List ℕ → (n m : ℕ) → ℕ
read_number l n m = cond (head_fits l) (check_also true (sheet_lengths_fit l n m) true (card_in l) (ground_in l) (state_in l)) 9

abbrev pub no_card : Card
no_card = record { columns = 0; rows = 0; dx = 0; dy = 0; dt = 0; steps = 0 }
