-- What the functions of this crate ask of what they are given.
use Rattle.std.specs.Prelude.{ℕ, ◌+◌, ◌≤◌, List, length}

-- a field of k bytes from index at on, of at most four bytes
pub record BytesAt (l : List ℕ) (at k : ℕ) : Type 0 where
  pub narrow : k ≤ 4
  pub inside : at + k ≤ length l
