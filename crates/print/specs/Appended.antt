-- A text laid into a list from a place on: what the functions that print promise each other.
use Rattle.std.specs.Prelude.{◌≡◌, List, ℕ, ◌+◌, length}
use Rattle.laws.specs.Laid.{laid}

-- `text` was laid over `old` from `at` on, which is then `new`, and `end` is where it ends
pub record Appended (text : List ℕ) (at end : ℕ) (old new : List ℕ) : Type 0 where
  pub stop : end ≡ at + length text
  pub bytes : new ≡ laid old at text
