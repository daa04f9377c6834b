-- Whether the ground and the state in a sheet pass the check of the values.
use Rattle.std.specs.Prelude.{ℕ, Bool, List}
use Rattle.rules.specs.Site.{values_fit, read_ground, read_state}
use Rattle.rules.specs.Sheet.{card_in, ground_in, state_in}

unfoldable pub sheet_values_fit : List ℕ → Bool
sheet_values_fit l = values_fit (card_in l) (read_ground (card_in l) (ground_in l)) (read_state (card_in l) (state_in l))
