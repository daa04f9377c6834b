-- What a step on lists of one size, which is at most the longest, requires: a sound site whose state they hold.
use Rattle.std.specs.Prelude.{List, ℕ, ◌≤◌, ℤ, length}
use Rattle.rules.specs.declared.Card.{Card}
use Rattle.laws.specs.Facts.{SoundWith}
use Rattle.laws.specs.PumpChecks.{SoundPumpedWith}

-- a tide and a draft of so many words hold it
pub record Held (room : ℕ) (c : Card) (g s n : List ℤ) : Type 0 where
  pub site : SoundWith c g s n
  pub few : length n ≤ room
  pub most : room ≤ 49408

-- with its pumps
pub record PumpedHeld (room : ℕ) (c : Card) (g s ps n : List ℤ) : Type 0 where
  pub site : SoundPumpedWith c g s ps n
  pub few : length n ≤ room
  pub most : room ≤ 49408
