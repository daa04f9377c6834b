-- Document 02, [13], on numbers: one table of worked cases under a single claim, proved by computation. Refusals stand in their order, each in cases that a later
-- one would apply to as well, where there is one.
use Rattle.std.specs.Prelude.{ℕ, zero, suc, ◌-◌, ◌≡◌, refl, true, List, [], ◌∷◌, ◌++◌, length, replicate}
use Rattle.rules.specs.Site.{first_refusal, if_done}
use Rattle.rules.specs.Search.{places}
use Rattle.pins_rules.specs.Table.{free, pin, crew_of, chamber_of, stands, pinned, held, pins_of, empty, word_fits, words_fit, each_once, table_fits, first_changed, with_pin, without_pin}
use Rattle.pins_rules.specs.Calls.{crew_number, chamber_number, add_number, add_table, remove_number, remove_table, list_number, list_answer, list_found}

-- ---- Tables

-- these words at the front, and all places behind them free
unfoldable pub filled : (words : List ℕ) → List ℕ
filled words = words ++ replicate (64 - length words) free

-- pins of one crew on so many chambers, the highest first
unfoldable pub pins_below : (crew count : ℕ) → List ℕ
pins_below crew zero = []
pins_below crew (suc n) = pin crew n ∷ pins_below crew n

-- crew 1 on chamber 5, a free place, crew 2 on 5, crew 1 on 3, crew 2 on 900
unfoldable pub mixed : List ℕ
mixed = filled (65541 ∷ 0 ∷ 131077 ∷ 65539 ∷ 131972 ∷ [])

-- a list to be filled, each word of it 7
unfoldable pub sevens : (count : ℕ) → List ℕ
sevens n = replicate n 7

-- ---- A row of the table: the number that a call answers, and the table or the list that it leaves

abbrev pub Adds : (table : List ℕ) (crew chamber number : ℕ) (left : List ℕ) → Type 0
Adds table crew chamber number left = (add_number table crew chamber ≡ number) × (add_table table crew chamber ≡ left)

abbrev pub Removes : (table : List ℕ) (crew chamber number : ℕ) (left : List ℕ) → Type 0
Removes table crew chamber number left = (remove_number table crew chamber ≡ number) × (remove_table table crew chamber ≡ left)

abbrev pub Lists : (table : List ℕ) (crew : ℕ) (found : List ℕ) (number count : ℕ) (left : List ℕ) → Type 0
Lists table crew found number count left =
    ((list_answer table crew found).number ≡ number) × ((list_answer table crew found).count ≡ count) × (list_found table crew found ≡ left)

-- refused: as lent
abbrev pub AddRefused : (table : List ℕ) (crew chamber number : ℕ) → Type 0
AddRefused table crew chamber number = Adds table crew chamber number table

abbrev pub RemoveRefused : (table : List ℕ) (crew chamber number : ℕ) → Type 0
RemoveRefused table crew chamber number = Removes table crew chamber number table

abbrev pub ListRefused : (table : List ℕ) (crew : ℕ) (found : List ℕ) (number : ℕ) → Type 0
ListRefused table crew found number = Lists table crew found number 0 found

pub record Starred : Type 0 where
  -- a pin is crew · 65,536 + chamber
  pub first_pin : pin 1 0 ≡ 65536
  pub last_pin : pin 2 999 ≡ 132071
  -- an add takes the lowest free place, the first of an empty table or one between others; both crews may pin one chamber
  pub into_empty : Adds empty 2 999 0 (filled (132071 ∷ []))
  pub lowest_place : Adds mixed 1 900 0 (filled (65541 ∷ 66436 ∷ 131077 ∷ 65539 ∷ 131972 ∷ []))
  -- a remove frees that crew's place, not the other's that stands before it, and a full crew's too; and the freed place serves again
  pub own_pin_goes : Removes (filled (131077 ∷ 65541 ∷ [])) 1 5 0 (filled (131077 ∷ 0 ∷ []))
  pub of_a_full_crew : Removes (filled (pins_below 1 32)) 1 31 0 (filled (0 ∷ pins_below 1 31))
  pub served_again : Adds (filled (131077 ∷ 0 ∷ 65539 ∷ [])) 2 0 0 (filled (131077 ∷ 131072 ∷ 65539 ∷ []))
  -- a listing rises, whatever the places, and leaves the rest as lent: two pins, none, the last chamber, and all 32
  pub rising : Lists mixed 1 (sevens 32) 0 2 (3 ∷ 5 ∷ sevens 30)
  pub other_crew : Lists mixed 2 (sevens 32) 0 2 (5 ∷ 900 ∷ sevens 30)
  pub none_listed : Lists empty 1 (sevens 32) 0 0 (sevens 32)
  pub last_chamber : Lists (filled (66535 ∷ [])) 1 (sevens 32) 0 1 (999 ∷ sevens 31)
  pub all_listed : Lists (filled (pins_below 1 32)) 1 (sevens 32) 0 32 (places 32 (λ k. true))
  -- 2 for another length, of the table or of the list, before 3, 11 and 12
  pub short_table : AddRefused (replicate 63 5) 3 1000 2
  pub long_table : RemoveRefused (replicate 65 5) 3 1000 2
  pub short_table_listed : ListRefused (replicate 63 5) 3 (sevens 32) 2
  pub short_list : ListRefused (replicate 64 5) 3 (sevens 31) 2
  pub long_list : ListRefused mixed 1 (sevens 33) 2
  -- 3 before 11 and 12: an unknown crew, crew 0 with a chamber too, a bad chamber of either crew's, a pin twice of either's, over 32 of either's
  pub unknown_crew : AddRefused (filled (196608 ∷ [])) 3 1000 3
  pub crew_0 : RemoveRefused (filled (5 ∷ [])) 3 1000 3
  pub bad_chamber : ListRefused (filled (66536 ∷ [])) 3 (sevens 32) 3
  pub bad_chamber_of_2 : AddRefused (filled (132072 ∷ [])) 3 1000 3
  pub pin_twice : AddRefused (filled (65541 ∷ 0 ∷ 65541 ∷ [])) 3 1000 3
  pub pin_twice_of_2 : RemoveRefused (filled (131077 ∷ 131077 ∷ [])) 3 1000 3
  pub over_32 : RemoveRefused (filled (pins_below 1 33)) 3 1000 3
  pub over_32_of_2 : AddRefused (filled (pins_below 2 33)) 3 1000 3
  -- 3 before 13, and nothing is left behind: a crew asks whose pins are good
  pub bad_word_beside : RemoveRefused (filled (65541 ∷ 5 ∷ [])) 1 5 3
  pub bad_word_listed : ListRefused (filled (65541 ∷ 66536 ∷ [])) 1 (sevens 32) 3
  -- 11 before 12; crew 0, which every free place could be taken for, lists nothing
  pub no_such_crew : AddRefused mixed 0 1000 11
  pub nor_this : RemoveRefused mixed 3 1000 11
  pub nor_listed : ListRefused mixed 3 (sevens 32) 11
  pub crew_0_listed : ListRefused mixed 0 (sevens 32) 11
  -- 12 before 14, and before 13 on a remove
  pub no_such_chamber : AddRefused (filled (pins_below 1 32)) 1 1000 12
  pub nor_removed : RemoveRefused mixed 1 1000 12
  -- 13: already pinned by this crew, before 14; not pinned by this crew, though by the other
  pub already : AddRefused (filled (pins_below 1 32)) 1 31 13
  pub not_pinned : RemoveRefused mixed 1 900 13
  -- 14: this crew has 32; one less, or the other crew's 32, is room
  pub full : AddRefused (filled (pins_below 1 32)) 1 32 14
  pub room_for_one : Adds (filled (pins_below 1 31)) 1 31 0 (filled (pins_below 1 31 ++ (65567 ∷ [])))
  pub others_full : Adds (filled (pins_below 2 32)) 1 31 0 (filled (pins_below 2 32 ++ (65567 ∷ [])))
  -- a full table, each crew has 32 and no place is free; and the last place
  pub both_full : AddRefused (pins_below 1 32 ++ pins_below 2 32) 2 40 14
  pub last_place : Adds (pins_below 1 32 ++ pins_below 2 31 ++ (0 ∷ [])) 2 40 0 (pins_below 1 32 ++ pins_below 2 31 ++ (131112 ∷ []))

pub starred : Starred
unfolding filled pins_below mixed sevens pin crew_of chamber_of stands pinned held pins_of empty word_fits words_fit each_once table_fits first_changed with_pin without_pin crew_number chamber_number add_number add_table remove_number remove_table list_number list_answer list_found first_refusal if_done places
starred = record {
  first_pin = refl;
  last_pin = refl;
  into_empty = (refl, refl);
  lowest_place = (refl, refl);
  own_pin_goes = (refl, refl);
  of_a_full_crew = (refl, refl);
  served_again = (refl, refl);
  rising = (refl, refl, refl);
  other_crew = (refl, refl, refl);
  none_listed = (refl, refl, refl);
  last_chamber = (refl, refl, refl);
  all_listed = (refl, refl, refl);
  short_table = (refl, refl);
  long_table = (refl, refl);
  short_table_listed = (refl, refl, refl);
  short_list = (refl, refl, refl);
  long_list = (refl, refl, refl);
  unknown_crew = (refl, refl);
  crew_0 = (refl, refl);
  bad_chamber = (refl, refl, refl);
  bad_chamber_of_2 = (refl, refl);
  pin_twice = (refl, refl);
  pin_twice_of_2 = (refl, refl);
  over_32 = (refl, refl);
  over_32_of_2 = (refl, refl);
  bad_word_beside = (refl, refl);
  bad_word_listed = (refl, refl, refl);
  no_such_crew = (refl, refl);
  nor_this = (refl, refl);
  nor_listed = (refl, refl, refl);
  crew_0_listed = (refl, refl, refl);
  no_such_chamber = (refl, refl);
  nor_removed = (refl, refl);
  already = (refl, refl);
  not_pinned = (refl, refl);
  full = (refl, refl);
  room_for_one = (refl, refl);
  others_full = (refl, refl);
  both_full = (refl, refl);
  last_place = (refl, refl);
}
