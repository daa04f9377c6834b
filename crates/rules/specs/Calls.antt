-- Document 01, "Calls and their numbers": of every public call, what it returns and what each lent list holds at exit, for every input.
-- `check_also` and its instances `check` (Site.antt) and `check_pumped_with` (Pumps.antt) give the lowest number of the first three checks that applies; `first_refusal`
-- puts a later number behind it; `if_done` says what is left where the number is 0, and where not (Site.antt).
use Rattle.std.specs.Prelude.{ℕ, zero, suc, true, cond, List, [], ◌++◌, length, drop, replicate, ℤ, pos, nat_abs, leb, Float}
use Rattle.rules.specs.declared.Card.{Card}
use Rattle.rules.specs.declared.Tally.{Tally}
use Rattle.rules.specs.declared.Window.{Window}
use Rattle.rules.specs.declared.Found.{Found}
use Rattle.rules.specs.declared.Heard.{Heard}
use Rattle.rules.specs.declared.Wrote.{Wrote}
use Rattle.rules.specs.declared.Reading.{Reading}
use Rattle.rules.specs.declared.Reading.TheVariants.{Metres, Feet, Nothing}
use Rattle.rules.specs.declared.Staff.{Staff}
use Rattle.rules.specs.declared.Raster.{Raster}
use Rattle.rules.specs.Site.{check_also, check, first_refusal, if_done}
use Rattle.rules.specs.Step.{Rule, new_velocity}
use Rattle.rules.specs.Textbook.{textbook_velocity}
use Rattle.rules.specs.Pumps.{check_pumped_with, pumped_step_by, PumpedOutcome, pumped_run_after}
use Rattle.rules.specs.Search.{register_fits, asked_fits, list_of}
use Rattle.rules.specs.Staff.{product, without_height, measured}
use Rattle.rules.specs.Sheet.{sheet_size, sheet_of, card_in, ground_in, state_in, read_number, no_card}
use Rattle.rules.specs.Text.{depth_text, fitted}
use Rattle.rules.specs.Raster.{words_of, columns_in, rows_in, side_in, raster_ground, raster_number, raster_text, raster_text_number}

-- ---- Step: reads ground, state and pumps, fills a next state. Refused: next state as lent. Over the rule for new velocities

unfoldable pub step_answer_by : Rule → Card → (land state pumps next : List ℤ) → ℕ
step_answer_by rule c g s ps next = first_refusal (check_pumped_with c g s ps (length next)) ((pumped_step_by rule c g ps).number s)

unfoldable pub step_next_by : Rule → Card → (land state pumps next : List ℤ) → List ℤ
step_next_by rule c g s ps next = if_done (step_answer_by rule c g s ps next) ((pumped_step_by rule c g ps).next s) next

-- by the first engine, document 01's
abbrev pub step_answer : Card → (land state pumps next : List ℤ) → ℕ
step_answer = step_answer_by new_velocity

abbrev pub step_next : Card → (land state pumps next : List ℤ) → List ℤ
step_next = step_next_by new_velocity

-- by the textbook engine (document 02, [5])
abbrev pub textbook_answer : Card → (land state pumps next : List ℤ) → ℕ
textbook_answer = step_answer_by textbook_velocity

abbrev pub textbook_next : Card → (land state pumps next : List ℤ) → List ℤ
textbook_next = step_next_by textbook_velocity

-- ---- Run: a state and a scratch list of equal length, and pumps. Reasons 1 to 3: both lists as lent. Otherwise scratch is all zero.

unfoldable pub run_outcome : Card → (land state pumps scratch : List ℤ) → PumpedOutcome
run_outcome c g s ps scratch = pumped_run_after (check_pumped_with c g s ps (length scratch)) c g s ps

unfoldable pub run_tally : Card → (land state pumps scratch : List ℤ) → Tally
run_tally c g s ps scratch = (run_outcome c g s ps scratch).tally

unfoldable pub run_state : Card → (land state pumps scratch : List ℤ) → List ℤ
run_state c g s ps scratch = (run_outcome c g s ps scratch).state

unfoldable pub run_scratch : Card → (land state pumps scratch : List ℤ) → List ℤ
run_scratch c g s ps scratch = if_done (check_pumped_with c g s ps (length scratch)) (replicate (length scratch) (pos 0)) scratch

-- ---- Search: done: the count, the first count places filled, the rest as lent. 8: the count needed, list as lent. 1 to 3: count 0, list as lent.

-- each definition below takes these seven first, in this order
module _ (c : Card) (land state xs ys : List ℤ) (w : Window) (depth : ℤ) where
  -- the first three checks; for 2 the register is looked at too, and for 3 what is asked
  unfoldable pub search_check : ℕ
  search_check = check_also true (register_fits xs ys) (asked_fits c xs ys w depth) c land state

  -- the places that are to be handed over: none where a check refuses
  unfoldable pub search_places : List ℕ
  search_places = if_done search_check (list_of c state w depth xs ys) []

  module _ (found : List ℕ) where
    unfoldable pub search_number : ℕ
    search_number = first_refusal search_check (cond (leb (length search_places) (length found)) 0 8)

    -- The count is how many places there are, and not how many were handed over: at 8 it says how long a list is needed.
    unfoldable pub search_answer : Found
    search_answer = record { number = search_number; count = length search_places }

    unfoldable pub search_found : List ℕ
    search_found = if_done search_number (search_places ++ drop (length search_places) found) found

-- ---- Sheet reader: the number, site card, ground, state. Refused: an all-zero card, lists as lent.

unfoldable pub read_answer : (sheet : List ℕ) (land state : List ℤ) → Heard
read_answer l g s = record {
  number = read_number l (length g) (length s);
  card = if_done (read_number l (length g) (length s)) (card_in l) no_card;
}

unfoldable pub read_ground_list : (sheet : List ℕ) (land state : List ℤ) → List ℤ
read_ground_list l g s = if_done (read_number l (length g) (length s)) (ground_in l) g

unfoldable pub read_state_list : (sheet : List ℕ) (land state : List ℤ) → List ℤ
read_state_list l g s = if_done (read_number l (length g) (length s)) (state_in l) s

-- ---- Sheet writer: the number and the size, the bytes in front, the rest as lent; refused: size 0, bytes as lent.

unfoldable pub write_number : Card → (land state : List ℤ) (room : ℕ) → ℕ
write_number c g s room = first_refusal (check c g s) (cond (leb (sheet_size c) room) 0 8)

unfoldable pub write_answer : Card → (land state : List ℤ) (bytes : List ℕ) → Wrote
write_answer c g s bytes = record {
  number = write_number c g s (length bytes);
  size = if_done (write_number c g s (length bytes)) (sheet_size c) 0;
}

unfoldable pub write_bytes : Card → (land state : List ℤ) (bytes : List ℕ) → List ℕ
write_bytes c g s bytes = if_done (write_number c g s (length bytes)) (sheet_of c g s ++ drop (sheet_size c) bytes) bytes

-- ---- Depth text: the text at the front of the lent scratch, the rest as lent; none where the height is out of range or the scratch too short.

unfoldable pub text_part : (height : ℤ) (scratch : List ℕ) → List ℕ
text_part h scratch = fitted (depth_text h) (length scratch)

unfoldable pub text_scratch : (height : ℤ) (scratch : List ℕ) → List ℕ
text_scratch h scratch = text_part h scratch ++ drop (length (text_part h scratch)) scratch

-- ---- Staff reading (document 02, [1]): the number, whether there is a height, and the height. Refused: no height, 0.

-- metres are multiplied by 1,000,000 and feet by 304,800
unfoldable pub staff_answer : Reading → Staff
staff_answer (Metres v) = measured v (product 1000000 v)
staff_answer (Feet v) = measured v (product 304800 v)
staff_answer Nothing = without_height 0

-- Across C a reading is its kind and a value: 0 is no reading, whatever the value, 1 metres, 2 feet; any other kind is refused with 3.
unfoldable pub kind_answer : (kind : ℕ) (value : Float) → Staff
kind_answer zero v = staff_answer Nothing
kind_answer (suc zero) v = staff_answer (Metres v)
kind_answer (suc (suc zero)) v = staff_answer (Feet v)
kind_answer (suc (suc (suc k))) v = without_height 3

-- ---- Raster reader (document 02, [3]): the number, columns, rows and side, and the ground. Refused: all 0, the list as lent.

unfoldable pub read_raster_answer : (text : List ℕ) (land : List ℤ) → Raster
read_raster_answer text g = record {
  number = raster_number text (length g);
  columns = if_done (raster_number text (length g)) (columns_in (words_of text)) 0;
  rows = if_done (raster_number text (length g)) (rows_in (words_of text)) 0;
  side = if_done (raster_number text (length g)) (nat_abs (side_in (words_of text))) 0;
}

unfoldable pub read_raster_ground : (text : List ℕ) (land : List ℤ) → List ℤ
read_raster_ground text g = if_done (raster_number text (length g)) (raster_ground (words_of text)) g

-- ---- Raster writer: the number and the size, the text in front, the rest as lent; refused: size 0, the text as lent.

unfoldable pub write_raster_answer : Card → (land : List ℤ) (text : List ℕ) → Wrote
write_raster_answer c g text = record {
  number = raster_text_number c g (length text);
  size = if_done (raster_text_number c g (length text)) (length (raster_text c g)) 0;
}

unfoldable pub write_raster_text : Card → (land : List ℤ) (text : List ℕ) → List ℕ
write_raster_text c g text = if_done (raster_text_number c g (length text)) (raster_text c g ++ drop (length (raster_text c g)) text) text
