-- What the register's parts may rest on once the checks have passed.
use Rattle.std.specs.Prelude.{◌≡◌, true, List, ◌*◌, ◌≤◌, ℤ, length}
use Rattle.rules.specs.declared.Card.{Card}
use Rattle.rules.specs.Site.{card_fits, cells, height_fits, heights_fit, read_state}
use Rattle.rules.specs.Search.{all_along}

-- the whole register, the heights and the depth asked
pub record Checked (c : Card) (s xs ys : List ℤ) (depth : ℤ) : Type 0 where
  pub card : card_fits c ≡ true
  pub heights : cells c ≤ length s
  pub kept : heights_fit c (read_state c s) ≡ true
  pub asked : height_fits depth ≡ true
  pub same : length xs ≡ length ys
  pub few : length xs ≤ 1000
  pub x_fits : all_along (c.columns * c.dx) xs ≡ true
  pub y_fits : all_along (c.rows * c.dy) ys ≡ true
