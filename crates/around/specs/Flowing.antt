-- A step half way through: what is known of its site and its lists.
use Rattle.std.specs.Prelude.{◌≡◌, true, List, ℤ}
use Rattle.rules.specs.declared.Card.{Card}
use Rattle.rules.specs.Site.{read_state}
use Rattle.rules.specs.Step.{limit_kept, new_heights_fit}
use Rattle.laws.specs.Reading.{Holds}
use Rattle.laws.specs.Facts.{Sound}
use Rattle.transfers.specs.Tide.{tide}

-- a sound site that keeps the step limit, with new heights in their range and the tide at hand
pub record Flowing (c : Card) (g s t : List ℤ) : Type 0 where
  pub sound : Sound c g s
  pub limit : limit_kept c (read_state c s) ≡ true
  pub heights : new_heights_fit c (read_state c s) ≡ true
  pub tide : Holds c (tide c (read_state c s)) t
