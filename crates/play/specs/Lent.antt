-- What the player's parts may rest on: a sheet that is run, and lists of the right lengths.
use Rattle.std.specs.Prelude.{ℕ, ◌≡◌, List, ℤ, length}
use Rattle.rules.specs.Site.{cells, state_length}
use Rattle.rules.specs.Run.{Outcome}
use Rattle.rules.specs.Pumps.{progress_of, PumpedOutcome}
use Rattle.rules.specs.Sheet.{card_in}
use Rattle.rules.specs.Play.{play_number}

-- how far a run came, and its end state: what is printed of it
abbrev pub progressed : PumpedOutcome → Outcome
progressed o = record { progress = progress_of o.tally; state = o.state }

-- lists that are cut to the header's size
pub record Cut (sheet : List ℕ) (land state scratch : List ℤ) : Type 0 where
  pub number : play_number sheet ≡ 0
  pub ground_words : length land ≡ cells (card_in sheet)
  pub state_words : length state ≡ state_length (card_in sheet)
  pub scratch_words : length scratch ≡ state_length (card_in sheet)

-- lists that hold any site of at most 32×32 cells
pub record Uncut (sheet : List ℕ) (land state scratch : List ℤ) : Type 0 where
  pub number : play_number sheet ≡ 0
  pub ground_words : length land ≡ 1024
  pub state_words : length state ≡ 3136
  pub scratch_words : length scratch ≡ 3136
