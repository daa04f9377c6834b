-- A text put at the front of a list: what the functions that write text promise each other.
use Rattle.std.specs.Prelude.{◌≡◌, List, ◌++◌, ℕ, length, drop}
use Rattle.rules.specs.Text.{fitted}

-- `text` was put at the front of `old`, which is then `new`, and that took `count` bytes: all of it and the rest as it was, or nothing where `old` is shorter
pub record Put (text : List ℕ) (count : ℕ) (old new : List ℕ) : Type 0 where
  pub long : count ≡ length (fitted text (length old))
  pub bytes : new ≡ fitted text (length old) ++ drop count old
