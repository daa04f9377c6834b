-- Document 02, [3], "Ground from the surveyor's raster": the ground of a site as an Esri ASCII raster, what is read of a text and what is written, in ASCII.
use Rattle.std.specs.Prelude.{ℕ, zero, suc, ◌+◌, ◌*◌, ◌-◌, ◌/◌, ◌%◌, ◌^◌, Bool, true, false, cond, not, ◌&&◌, ◌||◌, List, [], ◌∷◌, ◌++◌, map, length, get_or, drop, ℤ, pos, negsuc, neg_ℤ, leb, eqb}
use Rattle.std.specs.Int.Signed.{le_z}
use Rattle.rules.specs.declared.Card.{Card}
use Rattle.rules.specs.Grid.{grid, all}
use Rattle.rules.specs.Site.{cells, within, card_fits, ground_fits, grounds_fit, read_ground, first_of, first_refusal}
use Rattle.rules.specs.Text.{decimal}
use Rattle.rules.specs.Play.{line_feed}

-- ---- The words of a text

-- a blank, a tab, a line feed and a carriage return part words, in any number
unfoldable pub parts_words : (byte : ℕ) → Bool
parts_words b = eqb b 32 || eqb b 9 || eqb b 10 || eqb b 13

-- a word that has come to its end, in front of those that follow; without a byte it is none
unfoldable pub ended : (word : List ℕ) (words : List (List ℕ)) → List (List ℕ)
ended [] ws = ws
ended (b ∷ bs) ws = (b ∷ bs) ∷ ws

-- the words of a text, behind the bytes of a word that has begun
unfoldable pub words_behind : (begun text : List ℕ) → List (List ℕ)
words_behind begun [] = ended begun []
words_behind begun (b ∷ text) = cond (parts_words b) (ended begun (words_behind [] text)) (words_behind (begun ++ (b ∷ [])) text)

unfoldable pub words_of : (text : List ℕ) → List (List ℕ)
words_of text = words_behind [] text

-- word k, the first being 0; where there are not so many, a word without bytes, which is neither a key nor a number
abbrev pub word : (words : List (List ℕ)) (k : ℕ) → List ℕ
word ws k = get_or ws k []

-- ---- Digits

abbrev pub is_digit : (byte : ℕ) → Bool
is_digit b = within 48 57 b

-- the digits in front of a word, and what stands behind them
unfoldable pub digits_front : List ℕ → List ℕ
digits_front [] = []
digits_front (b ∷ bs) = cond (is_digit b) (b ∷ digits_front bs) []

unfoldable pub digits_rest : List ℕ → List ℕ
digits_rest [] = []
digits_rest (b ∷ bs) = cond (is_digit b) (digits_rest bs) (b ∷ bs)

-- digits and nothing else
unfoldable pub all_digits : List ℕ → Bool
all_digits [] = true
all_digits (b ∷ bs) = is_digit b && all_digits bs

-- one to `most` of them
unfoldable pub digits_fit : (most : ℕ) → List ℕ → Bool
digits_fit most ds = within 1 most (length ds) && all_digits ds

-- the number that digits are, the most significant first, behind those that made n
unfoldable pub number_behind : (n : ℕ) (digits : List ℕ) → ℕ
number_behind n [] = n
number_behind n (d ∷ ds) = number_behind (n * 10 + (d - 48)) ds

unfoldable pub number_of : (digits : List ℕ) → ℕ
number_of ds = number_behind 0 ds

-- ---- A decimal: an optional minus, digits, and optionally a point and one to six digits

-- a minus in front, and the word without it
unfoldable pub is_minus : List ℕ → Bool
is_minus [] = false
is_minus (b ∷ bs) = eqb b 45

unfoldable pub unsigned : List ℕ → List ℕ
unsigned [] = []
unsigned (b ∷ bs) = cond (eqb b 45) bs (b ∷ bs)

-- behind the digits: nothing, or a point and one to six digits
unfoldable pub fraction_fits : List ℕ → Bool
fraction_fits [] = true
fraction_fits (b ∷ ds) = eqb b 46 && digits_fit 6 ds

-- a decimal has one to twelve digits before a point; leading zeros count
unfoldable pub unsigned_fits : List ℕ → Bool
unsigned_fits w = within 1 12 (length (digits_front w)) && fraction_fits (digits_rest w)

unfoldable pub is_decimal : (word : List ℕ) → Bool
is_decimal w = unsigned_fits (unsigned w)

-- in micrometres, exact: of the six places behind a point those that are not written are 0
unfoldable pub fraction : List ℕ → ℕ
fraction [] = 0
fraction (b ∷ ds) = number_of ds * 10 ^ (6 - length ds)

unfoldable pub size_of : List ℕ → ℕ
size_of w = number_of (digits_front w) * 1000000 + fraction (digits_rest w)

unfoldable pub signed : (minus : Bool) (size : ℕ) → ℤ
signed false n = pos n
signed true n = neg_ℤ (pos n)

unfoldable pub decimal_value : (word : List ℕ) → ℤ
decimal_value w = signed (is_minus w) (size_of (unsigned w))

-- ---- The keys, in small letters, and a word that is one in any letter case

abbrev pub ncols : List ℕ
ncols = 110 ∷ 99 ∷ 111 ∷ 108 ∷ 115 ∷ []

abbrev pub nrows : List ℕ
nrows = 110 ∷ 114 ∷ 111 ∷ 119 ∷ 115 ∷ []

abbrev pub xllcorner : List ℕ
xllcorner = 120 ∷ 108 ∷ 108 ∷ 99 ∷ 111 ∷ 114 ∷ 110 ∷ 101 ∷ 114 ∷ []

abbrev pub yllcorner : List ℕ
yllcorner = 121 ∷ 108 ∷ 108 ∷ 99 ∷ 111 ∷ 114 ∷ 110 ∷ 101 ∷ 114 ∷ []

abbrev pub cellsize : List ℕ
cellsize = 99 ∷ 101 ∷ 108 ∷ 108 ∷ 115 ∷ 105 ∷ 122 ∷ 101 ∷ []

abbrev pub nodata_value : List ℕ
nodata_value = 110 ∷ 111 ∷ 100 ∷ 97 ∷ 116 ∷ 97 ∷ 95 ∷ 118 ∷ 97 ∷ 108 ∷ 117 ∷ 101 ∷ []

-- a capital letter as a small one, any other byte as it is
unfoldable pub lower : (byte : ℕ) → ℕ
lower b = cond (within 65 90 b) (b + 32) b

unfoldable pub is_key : (key word : List ℕ) → Bool
is_key [] [] = true
is_key [] (b ∷ bs) = false
is_key (k ∷ ks) [] = false
is_key (k ∷ ks) (b ∷ bs) = eqb (lower b) k && is_key ks bs

-- ---- A raster: its six keys in this order, each with its value, the last one optional; then its values, northern row first

-- each definition below takes the text's words first
module _ (ws : List (List ℕ)) where
  -- a key as word k, and behind it a count, which is digits only, or a decimal
  unfoldable pub count_at : (key : List ℕ) (k : ℕ) → Bool
  count_at key k = is_key key (word ws k) && digits_fit 12 (word ws (suc k))

  unfoldable pub decimal_at : (key : List ℕ) (k : ℕ) → Bool
  decimal_at key k = is_key key (word ws k) && is_decimal (word ws (suc k))

  unfoldable pub has_no_data : Bool
  has_no_data = is_key nodata_value (word ws 10)

  -- the corner is checked as a decimal and dropped
  unfoldable pub head_fits : Bool
  head_fits =
      count_at ncols 0
      && count_at nrows 2
      && decimal_at xllcorner 4
      && decimal_at yllcorner 6
      && decimal_at cellsize 8
      && (not has_no_data || is_decimal (word ws 11))

  unfoldable pub columns_in : ℕ
  columns_in = number_of (word ws 1)

  unfoldable pub rows_in : ℕ
  rows_in = number_of (word ws 3)

  unfoldable pub side_in : ℤ
  side_in = decimal_value (word ws 9)

  unfoldable pub no_data_in : ℤ
  no_data_in = decimal_value (word ws 11)

  -- the words behind those of the keys: the values, in metres
  unfoldable pub value_words : List (List ℕ)
  value_words = drop (cond has_no_data 12 10) ws

  unfoldable pub values_in : List ℤ
  values_in = map decimal_value value_words

  -- 10: not such a raster, or another count of values
  unfoldable pub is_raster : Bool
  is_raster = head_fits && all (length value_words) (λ k. is_decimal (word value_words k)) && eqb (length value_words) (rows_in * columns_in)

  -- 1: columns, rows or a side outside its range; cellsize becomes both sides
  unfoldable pub raster_sizes_fit : Bool
  raster_sizes_fit = within 1 128 columns_in && within 1 128 rows_in && (le_z (pos 100000) side_in && le_z side_in (pos 20000000))

  -- 3: a height out of range, or one that is the no-data value, as numbers
  unfoldable pub is_no_data : (value : ℤ) → Bool
  is_no_data z = has_no_data && (le_z z no_data_in && le_z no_data_in z)

  unfoldable pub raster_values_fit : Bool
  raster_values_fit = all (length value_words) (λ k. ground_fits (get_or values_in k (pos 0)) && not (is_no_data (get_or values_in k (pos 0))))

  -- the reader's number for a lent list of n words: 10 first, then 1, 2 and 3
  unfoldable pub raster_number_of : (n : ℕ) → ℕ
  raster_number_of n = cond is_raster (first_of raster_sizes_fit (eqb n (rows_in * columns_in)) raster_values_fit) 10

-- a list by rows, and the same with its rows the other way round: a raster has the northern row first, a site the southern one
unfoldable pub rows_turned : (columns rows : ℕ) → List ℤ → List ℤ
rows_turned columns rows l = grid columns rows (λ i j. get_or l ((rows - 1 - j) * columns + i) (pos 0))

unfoldable pub raster_ground : (words : List (List ℕ)) → List ℤ
raster_ground ws = rows_turned (columns_in ws) (rows_in ws) (values_in ws)

-- of a text
unfoldable pub raster_number : (text : List ℕ) (n : ℕ) → ℕ
raster_number text n = raster_number_of (words_of text) n

-- ---- The text of a raster: six places in cellsize and values

-- the six digits behind the point
abbrev pub six_places : (size : ℕ) → List ℕ
six_places n = (48 + n / 100000 % 10) ∷ (48 + n / 10000 % 10) ∷ (48 + n / 1000 % 10) ∷ (48 + n / 100 % 10) ∷ (48 + n / 10 % 10) ∷ (48 + n % 10) ∷ []

-- so many micrometres in metres
unfoldable pub metres : (size : ℕ) → List ℕ
metres n = decimal (n / 1000000) ++ (46 ∷ six_places n)

unfoldable pub signed_metres : ℤ → List ℕ
signed_metres (pos n) = metres n
signed_metres (negsuc n) = 45 ∷ metres (suc n)

-- a line: a key, a blank and its value
unfoldable pub key_line : (key value : List ℕ) → List ℕ
key_line key value = key ++ (32 ∷ (value ++ line_feed))

-- no NODATA_value, both corner values "0"
unfoldable pub key_lines : Card → List ℕ
key_lines c =
    key_line ncols (decimal c.columns)
    ++ (key_line nrows (decimal c.rows)
    ++ (key_line xllcorner (48 ∷ [])
    ++ (key_line yllcorner (48 ∷ [])
    ++ key_line cellsize (metres c.dx))))

-- behind value k: a line feed where it is the last of its row, a blank otherwise
unfoldable pub behind_value : (columns k : ℕ) → ℕ
behind_value columns k = cond (eqb (suc (k % columns)) columns) 10 32

-- the first n values of a list, by rows of so many columns
unfoldable pub value_texts : (columns : ℕ) (values : List ℤ) (n : ℕ) → List ℕ
value_texts columns l zero = []
value_texts columns l (suc k) = value_texts columns l k ++ (signed_metres (get_or l k (pos 0)) ++ (behind_value columns k ∷ []))

-- a line for each key and row, northern row first
unfoldable pub raster_text : Card → (land : List ℤ) → List ℕ
raster_text c g = key_lines c ++ value_texts c.columns (rows_turned c.columns c.rows g) (cells c)

-- the writer's number for a room of so many bytes: 1, 2 for another length or sides that differ, 3, and 8 for the room
unfoldable pub raster_text_number : Card → (land : List ℤ) (room : ℕ) → ℕ
raster_text_number c g room =
    first_refusal (first_of (card_fits c) (eqb (length g) (cells c) && eqb c.dx c.dy) (grounds_fit c (read_ground c g)))
    (cond (leb (length (raster_text c g)) room) 0 8)
