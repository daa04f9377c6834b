-- Document 02, [3], "Ground from the surveyor's raster": its worked cases, proved by computation. They are part of the one table (Starred.antt). Texts are written
-- as they stand, in ASCII, where \t is a tab, \n a line feed and \r a carriage return.
-- Refusals stand in their order, each in cases that a later one would apply to as well, where there is one.
use Rattle.std.specs.Prelude.{ℕ, zero, suc, ◌≡◌, refl, true, false, List, [], ◌∷◌, ◌++◌, replicate, ℤ, pos, neg_ℤ}
use Prim.Native.Char.{code}
use Prim.Native.String.{String, [] as nil_text, ◌∷◌ as ◌∷ᵗ◌, ◌++◌ as ◌then◌}
use Rattle.rules.specs.declared.Card.{Card}
use Rattle.rules.specs.Grid.{tabulate, grid, all, all_at}
use Rattle.rules.specs.Site.{read_ground, sizes_fit, sides_fit, times_fit, card_fits, grounds_fit, first_of, first_refusal, if_done}
use Rattle.rules.specs.Text.{digits_of, decimal}
use Rattle.rules.specs.Raster.{parts_words, ended, words_behind, words_of, digits_front, digits_rest, all_digits, digits_fit, number_behind, number_of, is_minus, unsigned, fraction_fits, unsigned_fits, is_decimal, fraction, size_of, signed, decimal_value, ncols, nrows, xllcorner, yllcorner, cellsize, nodata_value, lower, is_key, count_at, decimal_at, has_no_data, head_fits, columns_in, rows_in, side_in, no_data_in, value_words, values_in, is_raster, raster_sizes_fit, is_no_data, raster_values_fit, raster_number_of, rows_turned, raster_ground, raster_number, metres, signed_metres, key_line, key_lines, behind_value, value_texts, raster_text, raster_text_number}
use Rattle.rules.specs.Calls.{read_raster_answer, read_raster_ground, write_raster_answer, write_raster_text}

-- the bytes of a text
unfoldable pub bytes : String → List ℕ
bytes nil_text = []
bytes (c ∷ᵗ text) = code c ∷ bytes text

-- so many times the same text
unfoldable pub many : ℕ → String → String
many zero text = ""
many (suc n) text = text then many n text

-- ---- Texts of rasters

-- five keys with these words for columns, rows and side, and what follows
unfoldable pub raster : (columns rows side behind : String) → String
raster columns rows side behind =
    "ncols " then columns then "\nnrows " then rows then "\nxllcorner 0\nyllcorner 0\ncellsize " then side then "\n" then behind

-- one column and one row, side 1 m, and what follows: a value, or the no-data value and a value
unfoldable pub single : (behind : String) → String
single behind = raster "1" "1" "1" behind

-- the same with these words for both corners, and the value 1
unfoldable pub cornered : (x y : String) → String
cornered x y = "ncols 1\nnrows 1\nxllcorner " then x then "\nyllcorner " then y then "\ncellsize 1\n1\n"

-- ---- Lists and cards

-- a ground of so many words, and room of so many bytes, each 7
unfoldable pub grounds : ℕ → List ℤ
grounds n = replicate n (pos 7)

unfoldable pub room : ℕ → List ℕ
room n = replicate n 7

-- so many columns and rows, of sides 1.5 m
unfoldable pub sites : (columns rows : ℕ) → Card
sites columns rows = record { columns = columns; rows = rows; dx = 1500000; dy = 1500000; dt = 100; steps = 1 }

-- one cell of such sides, in so many milliseconds
unfoldable pub sided : (dx dy dt : ℕ) → Card
sided dx dy dt = record { columns = 1; rows = 1; dx = dx; dy = dy; dt = dt; steps = 1 }

-- the two by two site below, southern row first, and its text
unfoldable pub levels : List ℤ
levels = pos 0 ∷ neg_ℤ (pos 500000) ∷ pos 12345678 ∷ neg_ℤ (pos 50000000) ∷ []

unfoldable pub written : String
written = "ncols 2\nnrows 2\nxllcorner 0\nyllcorner 0\ncellsize 1.500000\n12.345678 -50.000000\n0.000000 -0.500000\n"

-- ---- A row of the table

-- a text parts into these words
abbrev pub Parts : (text : String) (words : List (List ℕ)) → Type 0
Parts text words = words_of (bytes text) ≡ words

-- a word is this decimal, in micrometres; or none
abbrev pub Gives : (word : String) (value : ℤ) → Type 0
Gives word value = (is_decimal (bytes word) ≡ true) × (decimal_value (bytes word) ≡ value)

abbrev pub GivesNone : (word : String) → Type 0
GivesNone word = is_decimal (bytes word) ≡ false

-- a text, with a lent list of so many words, is read: columns, rows and side, and the ground; or refused with this number: all 0, the list as lent
abbrev pub Reads : (text : String) (lent columns rows side : ℕ) (land : List ℤ) → Type 0
Reads text lent columns rows side land =
    (read_raster_answer (bytes text) (grounds lent) ≡ record { number = 0; columns = columns; rows = rows; side = side })
    × (read_raster_ground (bytes text) (grounds lent) ≡ land)

abbrev pub ReadRefused : (text : String) (lent number : ℕ) → Type 0
ReadRefused text lent number =
    (read_raster_answer (bytes text) (grounds lent) ≡ record { number = number; columns = 0; rows = 0; side = 0 })
    × (read_raster_ground (bytes text) (grounds lent) ≡ grounds lent)

-- the number alone, of a long text
abbrev pub Numbers : (text : String) (lent number : ℕ) → Type 0
Numbers text lent number = raster_number (bytes text) lent ≡ number

-- one value of one cell of side 1 m
abbrev pub ReadsOne : (behind : String) (value : ℤ) → Type 0
ReadsOne behind value = Reads (single behind) 1 1 1 1000000 (value ∷ [])

-- of a site, with so much room: the size, and the text with so many bytes as lent behind it; or refused with this number: size 0, the text as lent
abbrev pub Writes : Card → (land : List ℤ) (lent : ℕ) (text : String) (size rest : ℕ) → Type 0
Writes c land lent text size rest =
    (write_raster_answer c land (room lent) ≡ record { number = 0; size = size })
    × (write_raster_text c land (room lent) ≡ bytes text ++ room rest)

abbrev pub WriteRefused : Card → (land : List ℤ) (lent number : ℕ) → Type 0
WriteRefused c land lent number =
    (write_raster_answer c land (room lent) ≡ record { number = number; size = 0 })
    × (write_raster_text c land (room lent) ≡ room lent)

pub record StarredRasters : Type 0 where
  -- the keys of a raster, in the paper's letters
  pub key_of_columns : bytes "ncols" ≡ ncols
  pub key_of_rows : bytes "nrows" ≡ nrows
  pub key_of_the_west : bytes "xllcorner" ≡ xllcorner
  pub key_of_the_south : bytes "yllcorner" ≡ yllcorner
  pub key_of_the_side : bytes "cellsize" ≡ cellsize
  pub key_of_no_data : bytes "nodata_value" ≡ nodata_value
  -- a text without a word; blanks, tabs and line ends of both sorts part words, in any number, in front of them and behind them; the last word needs no line end
  pub no_text : Parts "" []
  pub only_blanks : Parts " \t\r\n " []
  pub parted : Parts "ab c\td\re\nf" (bytes "ab" ∷ bytes "c" ∷ bytes "d" ∷ bytes "e" ∷ bytes "f" ∷ [])
  pub parted_by_many : Parts "\n\r\n \t ab \t\r\n\n  c\r\n" (bytes "ab" ∷ bytes "c" ∷ [])
  -- a vertical tab, a form feed, a NUL and a comma stand inside a word
  pub one_word : Parts "a\u{b}b\u{c}c\0d,e" (bytes "a\u{b}b\u{c}c\0d,e" ∷ [])
  -- decimals, exact to the micrometre; the minus counts where the whole part is 0 as well, and -0 is 0
  pub whole : Gives "1" (pos 1000000)
  pub below_0 : Gives "-1" (neg_ℤ (pos 1000000))
  pub nought : Gives "0" (pos 0)
  pub minus_zero_lem : Gives "-0" (pos 0)
  pub one_place : Gives "0.5" (pos 500000)
  pub between_minus_1_and_0 : Gives "-0.5" (neg_ℤ (pos 500000))
  pub six_places : Gives "12.345678" (pos 12345678)
  pub last_place : Gives "-1.000001" (neg_ℤ (pos 1000001))
  pub zeros_in_front : Gives "007" (pos 7000000)
  pub zeros_behind : Gives "1.500000" (pos 1500000)
  -- twelve digits before a point pass and thirteen do not, whatever stands behind; leading zeros count
  pub twelve_digits : Gives "999999999999" (pos 999999999999000000)
  pub twelve_digits_and_six : Gives "-123456789012.345678" (neg_ℤ (pos 123456789012345678))
  pub thirteen_digits : GivesNone "1234567890123"
  pub thirteen_digits_and_one : GivesNone "1234567890123.4"
  pub twelve_zeros_and_1 : GivesNone "0000000000001"
  -- seven digits behind a point are none, though the last be 0
  pub seven_places : GivesNone "1.2345678"
  pub seven_zeros : GivesNone "1.0000000"
  -- a plus; no digit before a point, or behind it; an exponent; two points; a minus alone, twice, behind, or behind the point; nothing; other bytes
  pub plus : GivesNone "+1"
  pub no_digit_before : GivesNone ".5"
  pub no_digit_before_below_0 : GivesNone "-.5"
  pub no_digit_behind : GivesNone "5."
  pub point_alone : GivesNone "."
  pub exponent : GivesNone "1e3"
  pub exponent_behind : GivesNone "1.5e3"
  pub two_points : GivesNone "1.2.3"
  pub minus_alone : GivesNone "-"
  pub minus_twice : GivesNone "--1"
  pub minus_behind : GivesNone "1-"
  pub minus_behind_the_point : GivesNone "1.-5"
  pub nothing : GivesNone ""
  pub decimal_comma : GivesNone "1,5"
  pub not_a_number : GivesNone "nan"
  -- the bytes beside the digits
  pub slash : GivesNone "1/"
  pub colon : GivesNone "1:"
  -- keys in any letter case; a word that is shorter, longer or another is none; the bytes beside the capital letters are no letters
  pub small_letters : is_key ncols (bytes "ncols") ≡ true
  pub capital_letters : is_key nodata_value (bytes "NODATA_VALUE") ≡ true
  pub mixed_letters : is_key nodata_value (bytes "NODATA_value") ≡ true
  pub a_and_z : is_key (bytes "az") (bytes "AZ") ≡ true
  pub shorter : is_key ncols (bytes "ncol") ≡ false
  pub longer : is_key ncols (bytes "ncolss") ≡ false
  pub other : is_key ncols (bytes "nrows") ≡ false
  pub no_word : is_key ncols (bytes "") ≡ false
  pub at_sign : is_key (bytes "`") (bytes "@") ≡ false
  pub bracket : is_key (bytes "{") (bytes "[") ≡ false
  -- two rows, northern first in the text and southern first in the list; one row; one column
  pub two_by_two : Reads "ncols 2\nnrows 2\nxllcorner 0\nyllcorner 0\ncellsize 1.5\n1 -2\n0.000003 -0.000004\n" 4 2 2 1500000 (pos 3 ∷ neg_ℤ (pos 4) ∷ pos 1000000 ∷ neg_ℤ (pos 2000000) ∷ [])
  pub two_by_one : Reads (raster "2" "1" "1" "1 2") 2 2 1 1000000 (pos 1000000 ∷ pos 2000000 ∷ [])
  pub one_by_two : Reads (raster "1" "2" "1" "1 2") 2 1 2 1000000 (pos 2000000 ∷ pos 1000000 ∷ [])
  -- words count and lines do not: all in one line, keys in any case, tabs, line ends of both sorts, none at the end
  pub one_line : Reads "NCOLS 1 NROWS 2 XLLCORNER 0 YLLCORNER 0 CELLSIZE 1 3 4" 2 1 2 1000000 (pos 4000000 ∷ pos 3000000 ∷ [])
  pub many_lines : Reads "\r\nnCols\t1\r\nNrows\r\n1\r\n\r\nxllCorner 0\tYllcorner 0\r\nCellSize  1\r\n\t3" 1 1 1 1000000 (pos 3000000 ∷ [])
  -- a no-data value that does not occur, in and out of a height's range
  pub no_data_unused : ReadsOne "NODATA_value -9999\n0.5\n" (pos 500000)
  pub no_data_in_range : ReadsOne "nodata_VALUE 1.5\n1.500001\n" (pos 1500001)
  pub no_data_of_the_other_sign : ReadsOne "NODATA_value -1\n1\n" (pos 1000000)
  -- the corner may be any decimal
  pub corners : Reads (cornered "-999999999999.999999" "0000.5") 1 1 1 1000000 (pos 1000000 ∷ [])
  -- the ends of the ranges of a side, a height, columns and rows
  pub least_side : Reads (raster "1" "1" "0.1" "0") 1 1 1 100000 (pos 0 ∷ [])
  pub greatest_side : Reads (raster "1" "1" "20" "0") 1 1 1 20000000 (pos 0 ∷ [])
  pub greatest_height : ReadsOne "50\n" (pos 50000000)
  pub least_height : ReadsOne "-50.000000\n" (neg_ℤ (pos 50000000))
  pub columns_128 : Numbers (raster "128" "1" "1" (many 128 "0 ")) 128 0
  pub rows_128 : Numbers (raster "1" "128" "1" (many 128 "0 ")) 128 0
  -- a count is digits, up to twelve, with zeros in front or not
  pub count_with_zeros : Reads (raster "000000000002" "01" "1" "1 2") 2 2 1 1000000 (pos 1000000 ∷ pos 2000000 ∷ [])
  -- 10: no text; a word in front; a key missing, twice, out of order or another; a key without its value
  pub empty_text : ReadRefused "" 1 10
  pub word_in_front : ReadRefused ("x " then single "1\n") 1 10
  pub key_missing : ReadRefused "ncols 1\nnrows 1\nxllcorner 0\ncellsize 1\n1\n" 1 10
  pub keys_only : ReadRefused "ncols nrows xllcorner yllcorner cellsize 1" 1 10
  pub key_twice : ReadRefused ("ncols 1\n" then single "1\n") 1 10
  pub rows_first : ReadRefused "nrows 1\nncols 1\nxllcorner 0\nyllcorner 0\ncellsize 1\n1\n" 1 10
  pub south_first : ReadRefused "ncols 1\nnrows 1\nyllcorner 0\nxllcorner 0\ncellsize 1\n1\n" 1 10
  pub side_first : ReadRefused "ncols 1\nnrows 1\ncellsize 1\nxllcorner 0\nyllcorner 0\n1\n" 1 10
  pub other_key : ReadRefused "ncols 1\nnrows 1\nxllcenter 0\nyllcenter 0\ncellsize 1\n1\n" 1 10
  pub no_data_too_early : ReadRefused "ncols 1\nnrows 1\nxllcorner 0\nyllcorner 0\nNODATA_value 5\ncellsize 1\n1\n" 1 10
  pub no_data_twice : ReadRefused (single "NODATA_value 5\nNODATA_value 5\n1\n") 1 10
  pub no_data_too_late : ReadRefused (single "1\nNODATA_value 5\n") 1 10
  -- 10: words that are none of what they should be
  pub minus_in_a_count : ReadRefused (raster "-1" "1" "1" "1") 1 10
  pub plus_in_a_count : ReadRefused (raster "1" "+1" "1" "1") 1 10
  pub point_in_a_count : ReadRefused (raster "1.0" "1" "1" "1") 1 10
  pub thirteen_digits_in_a_count : ReadRefused (raster "1" "0000000000001" "1" "1") 1 10
  pub corner_not_a_decimal : ReadRefused (cornered "x" "0") 1 10
  pub other_corner_not_a_decimal : ReadRefused (cornered "0" "1e3") 1 10
  pub thirteen_digits_in_a_corner : ReadRefused (cornered "0" "-1234567890123") 1 10
  pub side_not_a_decimal : ReadRefused (raster "1" "1" "1m" "1") 1 10
  pub no_data_not_a_decimal : ReadRefused (single "NODATA_value nan\n1\n") 1 10
  pub no_data_without_a_value : ReadRefused (raster "0" "0" "1" "NODATA_value\n") 0 10
  pub value_not_a_decimal : ReadRefused (single "1.\n") 1 10
  pub value_with_seven_places : ReadRefused (single "1.0000001\n") 1 10
  pub vertical_tab : ReadRefused (raster "2" "1" "1" "1\u{b}2\n") 2 10
  pub zero_byte_at_the_end : ReadRefused (single "1\n\0") 1 10
  -- 10: one value too few, one too many; with a no-data value as well, which is no height
  pub too_few : ReadRefused (raster "2" "1" "1" "1\n") 2 10
  pub none_at_all : ReadRefused (single "") 1 10
  pub too_many : ReadRefused (raster "2" "1" "1" "1 2 3\n") 2 10
  pub no_data_too_few : ReadRefused (single "NODATA_value 5\n") 1 10
  pub no_data_too_many : ReadRefused (single "NODATA_value 5\n1 2\n") 1 10
  -- 10 before 1, 2 and 3: another count of values; a bad word behind a side and a height that are out of range
  pub ten_before_one : ReadRefused (raster "129" "1" "1" "1\n") 1 10
  pub ten_without_columns : ReadRefused (raster "0" "1" "1" "1\n") 0 10
  pub ten_before_all : ReadRefused (raster "2" "1" "0" "51 x\n") 7 10
  -- 1 before 2 and 3: columns, rows and side on both ends of their ranges
  pub no_columns : ReadRefused (raster "0" "1" "1" "") 0 1
  pub no_rows : ReadRefused (raster "1" "0" "1" "") 5 1
  pub columns_129 : Numbers (raster "129" "1" "1" (many 129 "51 ")) 1 1
  pub rows_129 : Numbers (raster "1" "129" "1" (many 129 "0 ")) 129 1
  pub side_too_small : ReadRefused (raster "1" "1" "0.099999" "51") 2 1
  pub side_too_great : ReadRefused (raster "1" "1" "20.000001" "51") 2 1
  pub side_below_0 : ReadRefused (raster "1" "1" "-1" "1") 1 1
  pub side_0 : ReadRefused (raster "1" "1" "0" "1") 1 1
  -- 2 before 3: a lent list of another length
  pub short_list : ReadRefused (single "51\n") 0 2
  pub long_list : ReadRefused (single "NODATA_value 1\n1\n") 2 2
  -- 3: a height out of range, the last of two or the first; the no-data value, as a number in whatever words
  pub too_high : ReadRefused (raster "2" "1" "1" "0 50.000001\n") 2 3
  pub too_low : ReadRefused (raster "2" "1" "1" "-50.000001 0\n") 2 3
  pub no_data_is : ReadRefused (single "NODATA_value -9999\n-9999.0\n") 1 3
  pub no_data_zero : ReadRefused (single "NODATA_value 0\n-0\n") 1 3
  pub no_data_in_other_words : ReadRefused (raster "2" "1" "1" "NODATA_value 1.5\n0 1.50\n") 2 3
  -- the exact bytes of a site, room for just these; read back, it is the site's ground
  pub site : Writes (sites 2 2) levels 98 written 98 0
  pub read_back : Reads written 4 2 2 1500000 levels
  -- one row and one column: one micrometre above 0 and below it, 50 m, and below 0 one micrometre less than that; the ends of a side's range
  pub one_row : Writes (sites 2 1) (pos 1 ∷ neg_ℤ (pos 1) ∷ []) 77 "ncols 2\nnrows 1\nxllcorner 0\nyllcorner 0\ncellsize 1.500000\n0.000001 -0.000001\n" 77 0
  pub one_column : Writes (sites 1 2) (pos 50000000 ∷ neg_ℤ (pos 49999999) ∷ []) 79 "ncols 1\nnrows 2\nxllcorner 0\nyllcorner 0\ncellsize 1.500000\n-49.999999\n50.000000\n" 79 0
  pub least_sides : Writes (sided 100000 100000 1) (pos 0 ∷ []) 67 "ncols 1\nnrows 1\nxllcorner 0\nyllcorner 0\ncellsize 0.100000\n0.000000\n" 67 0
  pub greatest_sides : Writes (sided 20000000 20000000 1000) (pos 0 ∷ []) 68 "ncols 1\nnrows 1\nxllcorner 0\nyllcorner 0\ncellsize 20.000000\n0.000000\n" 68 0
  -- more room: the rest as lent
  pub rest_as_lent : Writes (sites 2 2) levels 101 written 98 3
  -- 1 before 2, 3 and 8: the card's time too, though a raster has none
  pub time_0 : WriteRefused (sided 1500000 1500001 0) (pos 50000001 ∷ []) 0 1
  pub without_columns : WriteRefused (sites 0 1) [] 67 1
  -- 2 before 3 and 8: another length, of a ground whose first word is out of range; sides that differ
  pub long_ground : WriteRefused (sites 1 1) (pos 50000001 ∷ pos 0 ∷ []) 0 2
  pub short_ground : WriteRefused (sites 2 1) (pos 0 ∷ []) 200 2
  pub sides_differ : WriteRefused (sided 1500000 1500001 100) (pos 50000001 ∷ []) 0 2
  -- 3 before 8
  pub level_too_high : WriteRefused (sites 1 1) (pos 50000001 ∷ []) 0 3
  pub level_too_low : WriteRefused (sites 2 1) (pos 0 ∷ neg_ℤ (pos 50000001) ∷ []) 200 3
  -- 8: one byte too short, and no room at all
  pub one_byte_short : WriteRefused (sites 2 2) levels 97 8
  pub no_room : WriteRefused (sites 2 2) levels 0 8

pub starred_rasters : StarredRasters
unfolding bytes many raster single cornered grounds room sites sided levels written tabulate grid all all_at read_ground sizes_fit sides_fit times_fit card_fits grounds_fit first_of first_refusal if_done digits_of decimal parts_words ended words_behind words_of digits_front digits_rest all_digits digits_fit number_behind number_of is_minus unsigned fraction_fits unsigned_fits is_decimal fraction size_of signed decimal_value lower is_key count_at decimal_at has_no_data head_fits columns_in rows_in side_in no_data_in value_words values_in is_raster raster_sizes_fit is_no_data raster_values_fit raster_number_of rows_turned raster_ground raster_number metres signed_metres key_line key_lines behind_value value_texts raster_text raster_text_number read_raster_answer read_raster_ground write_raster_answer write_raster_text
starred_rasters = record {
  key_of_columns = refl;
  key_of_rows = refl;
  key_of_the_west = refl;
  key_of_the_south = refl;
  key_of_the_side = refl;
  key_of_no_data = refl;
  no_text = refl;
  only_blanks = refl;
  parted = refl;
  parted_by_many = refl;
  one_word = refl;
  whole = (refl, refl);
  below_0 = (refl, refl);
  nought = (refl, refl);
  minus_zero_lem = (refl, refl);
  one_place = (refl, refl);
  between_minus_1_and_0 = (refl, refl);
  six_places = (refl, refl);
  last_place = (refl, refl);
  zeros_in_front = (refl, refl);
  zeros_behind = (refl, refl);
  twelve_digits = (refl, refl);
  twelve_digits_and_six = (refl, refl);
  thirteen_digits = refl;
  thirteen_digits_and_one = refl;
  twelve_zeros_and_1 = refl;
  seven_places = refl;
  seven_zeros = refl;
  plus = refl;
  no_digit_before = refl;
  no_digit_before_below_0 = refl;
  no_digit_behind = refl;
  point_alone = refl;
  exponent = refl;
  exponent_behind = refl;
  two_points = refl;
  minus_alone = refl;
  minus_twice = refl;
  minus_behind = refl;
  minus_behind_the_point = refl;
  nothing = refl;
  decimal_comma = refl;
  not_a_number = refl;
  slash = refl;
  colon = refl;
  small_letters = refl;
  capital_letters = refl;
  mixed_letters = refl;
  a_and_z = refl;
  shorter = refl;
  longer = refl;
  other = refl;
  no_word = refl;
  at_sign = refl;
  bracket = refl;
  two_by_two = (refl, refl);
  two_by_one = (refl, refl);
  one_by_two = (refl, refl);
  one_line = (refl, refl);
  many_lines = (refl, refl);
  no_data_unused = (refl, refl);
  no_data_in_range = (refl, refl);
  no_data_of_the_other_sign = (refl, refl);
  corners = (refl, refl);
  least_side = (refl, refl);
  greatest_side = (refl, refl);
  greatest_height = (refl, refl);
  least_height = (refl, refl);
  columns_128 = refl;
  rows_128 = refl;
  count_with_zeros = (refl, refl);
  empty_text = (refl, refl);
  word_in_front = (refl, refl);
  key_missing = (refl, refl);
  keys_only = (refl, refl);
  key_twice = (refl, refl);
  rows_first = (refl, refl);
  south_first = (refl, refl);
  side_first = (refl, refl);
  other_key = (refl, refl);
  no_data_too_early = (refl, refl);
  no_data_twice = (refl, refl);
  no_data_too_late = (refl, refl);
  minus_in_a_count = (refl, refl);
  plus_in_a_count = (refl, refl);
  point_in_a_count = (refl, refl);
  thirteen_digits_in_a_count = (refl, refl);
  corner_not_a_decimal = (refl, refl);
  other_corner_not_a_decimal = (refl, refl);
  thirteen_digits_in_a_corner = (refl, refl);
  side_not_a_decimal = (refl, refl);
  no_data_not_a_decimal = (refl, refl);
  no_data_without_a_value = (refl, refl);
  value_not_a_decimal = (refl, refl);
  value_with_seven_places = (refl, refl);
  vertical_tab = (refl, refl);
  zero_byte_at_the_end = (refl, refl);
  too_few = (refl, refl);
  none_at_all = (refl, refl);
  too_many = (refl, refl);
  no_data_too_few = (refl, refl);
  no_data_too_many = (refl, refl);
  ten_before_one = (refl, refl);
  ten_without_columns = (refl, refl);
  ten_before_all = (refl, refl);
  no_columns = (refl, refl);
  no_rows = (refl, refl);
  columns_129 = refl;
  rows_129 = refl;
  side_too_small = (refl, refl);
  side_too_great = (refl, refl);
  side_below_0 = (refl, refl);
  side_0 = (refl, refl);
  short_list = (refl, refl);
  long_list = (refl, refl);
  too_high = (refl, refl);
  too_low = (refl, refl);
  no_data_is = (refl, refl);
  no_data_zero = (refl, refl);
  no_data_in_other_words = (refl, refl);
  site = (refl, refl);
  read_back = (refl, refl);
  one_row = (refl, refl);
  one_column = (refl, refl);
  least_sides = (refl, refl);
  greatest_sides = (refl, refl);
  rest_as_lent = (refl, refl);
  time_0 = (refl, refl);
  without_columns = (refl, refl);
  long_ground = (refl, refl);
  short_ground = (refl, refl);
  sides_differ = (refl, refl);
  level_too_high = (refl, refl);
  level_too_low = (refl, refl);
  one_byte_short = (refl, refl);
  no_room = (refl, refl);
}
