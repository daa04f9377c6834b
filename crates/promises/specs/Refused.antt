-- A refused call leaves every list as it was lent: the documents' sentences about refusals, each of them read off the definitions of the calls.
-- Texts.antt has the depth text's.
use Rattle.std.specs.Prelude.{ℕ, ◌<◌, ◌≡◌, List, ℤ, pos, length, replicate}
use Rattle.std.proofs.Common.{ap, ne_of_gt}
use Rattle.rules.specs.declared.Card.{Card}
use Rattle.rules.specs.declared.Window.{Window}
use Rattle.rules.specs.Step.{Rule}
use Rattle.rules.specs.Pumps.{check_pumped_with, PumpedOutcome}
use Rattle.rules.specs.Sheet.{read_number, no_card}
use Rattle.rules.specs.Raster.{raster_number, raster_text_number}
use Rattle.rules.specs.Calls.{step_answer_by, step_next_by, run_outcome, run_tally, run_state, run_scratch, search_number, search_found, search_check, search_answer, read_answer, read_ground_list, read_state_list, write_number, write_answer, write_bytes, read_raster_answer, read_raster_ground, write_raster_answer, write_raster_text}
use Rattle.laws.specs.Asked.{places_refused}
use Rattle.laws.specs.Outcomes.{if_done_lem, if_refused}
use Rattle.laws.specs.PumpedSteps.{pumped_refused}

-- step, by either engine: the next state as lent
pub step_refused : (rule : Rule) (c : Card) (g s ps next : List ℤ) → 0 < step_answer_by rule c g s ps next → step_next_by rule c g s ps next ≡ next
unfolding step_next_by
step_refused rule c g s ps next h = if_refused _ _ _ (ne_of_gt h)

-- run, reasons 1 to 3: steps 0, top 0, nothing added, nothing taken, both lists as lent
pub record RunRefused (c : Card) (g s ps scratch : List ℤ) : Type 0 where
  pub tally : run_tally c g s ps scratch ≡ record { steps = 0; reason = check_pumped_with c g s ps (length scratch); top = pos 0; added = 0; taken = 0 }
  pub state : run_state c g s ps scratch ≡ s
  pub scratch_as_lent : run_scratch c g s ps scratch ≡ scratch

pub run_refused : (c : Card) (g s ps scratch : List ℤ) → 0 < check_pumped_with c g s ps (length scratch) → RunRefused c g s ps scratch
unfolding run_tally run_state run_scratch run_outcome
run_refused c g s ps scratch h =
    let e = pumped_refused c g s ps (check_pumped_with c g s ps (length scratch)) (ne_of_gt h) in
    record { tally = ap (λ (o : PumpedOutcome). o.tally) e; state = ap (λ (o : PumpedOutcome). o.state) e; scratch_as_lent = if_refused _ _ _ (ne_of_gt h) }

-- otherwise scratch is all zero, for 0 steps wanted too
pub scratch_zero : (c : Card) (g s ps scratch : List ℤ) → check_pumped_with c g s ps (length scratch) ≡ 0 → run_scratch c g s ps scratch ≡ replicate (length scratch) (pos 0)
unfolding run_scratch
scratch_zero c g s ps scratch e = if_done_lem _ _ _ e

-- search: the list as lent, and for 1 to 3 the count 0
pub search_refused : (c : Card) (g s xs ys : List ℤ) (w : Window) (depth : ℤ) (found : List ℕ) → 0 < search_number c g s xs ys w depth found
    → search_found c g s xs ys w depth found ≡ found
unfolding search_found
search_refused c g s xs ys w depth found h = if_refused _ _ _ (ne_of_gt h)

pub no_count : (c : Card) (g s xs ys : List ℤ) (w : Window) (depth : ℤ) (found : List ℕ) → 0 < search_check c g s xs ys w depth
    → (search_answer c g s xs ys w depth found).count ≡ 0
unfolding search_answer
no_count c g s xs ys w depth found h = ap length (places_refused c g s xs ys w depth (ne_of_gt h))

-- sheet reader: an all-zero card, lists as lent
pub record ReadRefused (sheet : List ℕ) (g s : List ℤ) : Type 0 where
  pub card : (read_answer sheet g s).card ≡ no_card
  pub land : read_ground_list sheet g s ≡ g
  pub state : read_state_list sheet g s ≡ s

pub read_refused : (sheet : List ℕ) (g s : List ℤ) → 0 < read_number sheet (length g) (length s) → ReadRefused sheet g s
unfolding read_answer read_ground_list read_state_list
read_refused sheet g s h = record { card = if_refused _ _ _ (ne_of_gt h); land = if_refused _ _ _ (ne_of_gt h); state = if_refused _ _ _ (ne_of_gt h) }

-- sheet writer: size 0, bytes as lent
pub record WriteRefused (c : Card) (g s : List ℤ) (bytes : List ℕ) : Type 0 where
  pub size : (write_answer c g s bytes).size ≡ 0
  pub bytes_as_lent : write_bytes c g s bytes ≡ bytes

pub write_refused : (c : Card) (g s : List ℤ) (bytes : List ℕ) → 0 < write_number c g s (length bytes) → WriteRefused c g s bytes
unfolding write_answer write_bytes
write_refused c g s bytes h = record { size = if_refused _ _ _ (ne_of_gt h); bytes_as_lent = if_refused _ _ _ (ne_of_gt h) }

-- raster reader: columns, rows and side 0, the ground as lent
pub record RasterReadRefused (text : List ℕ) (g : List ℤ) : Type 0 where
  pub columns : (read_raster_answer text g).columns ≡ 0
  pub rows : (read_raster_answer text g).rows ≡ 0
  pub side : (read_raster_answer text g).side ≡ 0
  pub land : read_raster_ground text g ≡ g

pub raster_read_refused : (text : List ℕ) (g : List ℤ) → 0 < raster_number text (length g) → RasterReadRefused text g
unfolding read_raster_answer read_raster_ground
raster_read_refused text g h = record {
  columns = if_refused _ _ _ (ne_of_gt h);
  rows = if_refused _ _ _ (ne_of_gt h);
  side = if_refused _ _ _ (ne_of_gt h);
  land = if_refused _ _ _ (ne_of_gt h);
}

-- raster writer: size 0, the text as lent
pub record RasterWriteRefused (c : Card) (g : List ℤ) (text : List ℕ) : Type 0 where
  pub size : (write_raster_answer c g text).size ≡ 0
  pub text_as_lent : write_raster_text c g text ≡ text

pub raster_write_refused : (c : Card) (g : List ℤ) (text : List ℕ) → 0 < raster_text_number c g (length text) → RasterWriteRefused c g text
unfolding write_raster_answer write_raster_text
raster_write_refused c g text h = record { size = if_refused _ _ _ (ne_of_gt h); text_as_lent = if_refused _ _ _ (ne_of_gt h) }
