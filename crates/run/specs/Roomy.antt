-- What a run with a tide of its own requires: a sound site with its pumps, a scratch list as long as its state, and a tide that has room for it.
use Rattle.std.specs.Prelude.{List, ℕ, ◌≤◌, ℤ, length}
use Rattle.rules.specs.declared.Card.{Card}
use Rattle.laws.specs.PumpChecks.{SoundPumpedWith}

-- a tide of so many words, which are at most the longest state's
pub record Roomy (room : ℕ) (c : Card) (land state pumps scratch : List ℤ) : Type 0 where
  pub lent : SoundPumpedWith c land state pumps scratch
  pub few : length state ≤ room
  pub most : room ≤ 49408
