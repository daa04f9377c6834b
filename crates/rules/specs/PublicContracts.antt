-- The contracts of the public calls, each as one record of equations: the returned value, and the content at exit of every list that was lent to be written.
-- There is no condition on what is given: refused calls are determined too.
use Rattle.std.specs.Prelude.{ℕ, ◌≡◌, List, ℤ, length, Float}
use Rattle.rules.specs.declared.Card.{Card}
use Rattle.rules.specs.declared.Tally.{Tally}
use Rattle.rules.specs.declared.Window.{Window}
use Rattle.rules.specs.declared.Chamber.{Chamber}
use Rattle.rules.specs.declared.Found.{Found}
use Rattle.rules.specs.declared.Heard.{Heard}
use Rattle.rules.specs.declared.Wrote.{Wrote}
use Rattle.rules.specs.declared.Reading.{Reading}
use Rattle.rules.specs.declared.Staff.{Staff}
use Rattle.rules.specs.declared.Raster.{Raster}
use Rattle.rules.specs.Search.{xs_of, ys_of}
use Rattle.rules.specs.Step.{Rule, new_velocity}
use Rattle.rules.specs.Textbook.{textbook_velocity}
use Rattle.rules.specs.Calls.{step_answer_by, step_next_by, run_tally, run_state, run_scratch, search_answer, search_found, read_answer, read_ground_list, read_state_list, write_answer, write_bytes, text_part, text_scratch, staff_answer, kind_answer, read_raster_answer, read_raster_ground, write_raster_answer, write_raster_text}

-- ---- step, over the rule for new velocities; by the first engine, and by the textbook's

pub record StepContractBy (rule : Rule) (c : Card) (land state pumps next : List ℤ) (number : ℕ) (next_at_exit : List ℤ) : Type 0 where
  pub answer : number ≡ step_answer_by rule c land state pumps next
  pub next_exit : next_at_exit ≡ step_next_by rule c land state pumps next

abbrev pub StepContract : (c : Card) (land state pumps next : List ℤ) (number : ℕ) (next_at_exit : List ℤ) → Type 0
StepContract = StepContractBy new_velocity

abbrev pub TextbookContract : (c : Card) (land state pumps next : List ℤ) (number : ℕ) (next_at_exit : List ℤ) → Type 0
TextbookContract = StepContractBy textbook_velocity

-- ---- run

pub record RunContract (c : Card) (land state pumps scratch : List ℤ) (tally : Tally) (state_at_exit scratch_at_exit : List ℤ) : Type 0 where
  pub answer : tally ≡ run_tally c land state pumps scratch
  pub state_exit : state_at_exit ≡ run_state c land state pumps scratch
  pub scratch_exit : scratch_at_exit ≡ run_scratch c land state pumps scratch

-- ---- search, over two lists of numbers and over a row of chambers

pub record SearchContract (c : Card) (land state xs ys : List ℤ) (w : Window) (depth : ℤ) (found : List ℕ) (answered : Found) (found_at_exit : List ℕ) : Type 0 where
  pub answer : answered ≡ search_answer c land state xs ys w depth found
  pub found_exit : found_at_exit ≡ search_found c land state xs ys w depth found

abbrev pub RowSearchContract : (c : Card) (land state : List ℤ) (chambers : List Chamber) (w : Window) (depth : ℤ) (found : List ℕ) (answered : Found) (found_at_exit : List ℕ) → Type 0
RowSearchContract c g s row w d f a v = SearchContract c g s (xs_of row) (ys_of row) w d f a v

-- ---- sheet reader

pub record ReadContract (sheet : List ℕ) (land state : List ℤ) (heard : Heard) (ground_at_exit state_at_exit : List ℤ) : Type 0 where
  pub answer : heard ≡ read_answer sheet land state
  pub ground_exit : ground_at_exit ≡ read_ground_list sheet land state
  pub state_exit : state_at_exit ≡ read_state_list sheet land state

-- ---- sheet writer

pub record WriteContract (c : Card) (land state : List ℤ) (bytes : List ℕ) (wrote : Wrote) (bytes_at_exit : List ℕ) : Type 0 where
  pub answer : wrote ≡ write_answer c land state bytes
  pub bytes_exit : bytes_at_exit ≡ write_bytes c land state bytes

-- ---- depth text

pub record TextContract (height : ℤ) (scratch : List ℕ) (count : ℕ) (scratch_at_exit : List ℕ) : Type 0 where
  pub answer : count ≡ length (text_part height scratch)
  pub scratch_exit : scratch_at_exit ≡ text_scratch height scratch

-- ---- staff reading, as an enum and by its kind

pub record StaffContract (reading : Reading) (answered : Staff) : Type 0 where
  pub answer : answered ≡ staff_answer reading

pub record KindContract (kind : ℕ) (value : Float) (answered : Staff) : Type 0 where
  pub answer : answered ≡ kind_answer kind value

-- ---- raster reader and writer

pub record ReadRasterContract (text : List ℕ) (land : List ℤ) (answered : Raster) (ground_at_exit : List ℤ) : Type 0 where
  pub answer : answered ≡ read_raster_answer text land
  pub ground_exit : ground_at_exit ≡ read_raster_ground text land

pub record WriteRasterContract (c : Card) (land : List ℤ) (text : List ℕ) (wrote : Wrote) (text_at_exit : List ℕ) : Type 0 where
  pub answer : wrote ≡ write_raster_answer c land text
  pub text_exit : text_at_exit ≡ write_raster_text c land text
