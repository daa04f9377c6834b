-- A chamber on the site, and where the height of its cell stands.
use Rattle.std.specs.Prelude.{◌≡◌, Bool, true, false, List, ℕ, ◌+◌, ◌*◌, ◌≤◌, ◌<◌, ℤ, length}
use Rattle.rules.specs.declared.Card.{Card}
use Rattle.rules.specs.Site.{card_fits, cells, height_fits, heights_fit, read_state}
use Rattle.rules.specs.Search.{cell_along, along_fits}

-- where the height of a chamber's cell stands in the state
abbrev pub cell_place : Card → (x y : ℤ) → ℕ
cell_place c x y = cell_along c.dy c.rows y * c.columns + cell_along c.dx c.columns x

-- one chamber on the site
pub record OnSite (c : Card) (x y : ℤ) : Type 0 where
  pub card : card_fits c ≡ true
  pub x_fits : along_fits (c.columns * c.dx) x ≡ true
  pub y_fits : along_fits (c.rows * c.dy) y ≡ true

-- a state that holds its cell's height, and heights and a depth asked that are in their range
pub record Wet (c : Card) (s : List ℤ) (depth x y : ℤ) : Type 0 where
  pub on : OnSite c x y
  pub heights : cells c ≤ length s
  pub kept : heights_fit c (read_state c s) ≡ true
  pub asked : height_fits depth ≡ true

-- what a yes says of a height and a depth, and what a no says
abbrev pub DeepEnough : (height depth : ℕ) → Bool → Type 0
DeepEnough height depth true = depth ≤ height
DeepEnough height depth false = height < depth
