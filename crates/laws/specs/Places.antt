-- Where the parts of a state lie: each cell and each face has its place in the list, and no sum of them is larger than the list.
use Rattle.std.specs.Prelude.{◌≡◌, List, ℕ, ◌+◌, ◌*◌, ◌≤◌, ◌<◌, ℤ, pos, get_or}
use Rattle.std.proofs.Math.Nat.{zero-add}
use Rattle.std.proofs.Common.{add_assoc, arith}
use Rattle.std.proofs.Math.Numerals.{add-one}
use Rattle.std.proofs.Math.Arith.{digits_lt}
use Rattle.rules.specs.declared.Card.{Card}
use Rattle.rules.specs.Site.{state_length, read_state}

-- the parts of a list that is as long as a state, as the code counts them
pub record Room (columns rows n : ℕ) : Type 0 where
  pub heights : rows * columns ≤ n
  pub faces : rows * columns + rows * (columns + 1) ≤ n
  pub whole : rows * columns + (rows * (columns + 1) + (rows + 1) * columns) ≡ n

pub room : (c : Card) {n : ℕ} → n ≡ state_length c → Room c.columns c.rows n
unfolding state_length
room c e = record { heights = omega arith; faces = omega arith; whole = omega arith }

module _ (c : Card) {n i j : ℕ} (e : n ≡ state_length c) where
  pub height_in : i < c.columns → j < c.rows → 0 + (j * c.columns + i) < n
  height_in hi hj = omega (arith, room c e, digits_lt hj hi)

  pub east_in : i ≤ c.columns → j < c.rows → c.rows * c.columns + (j * (c.columns + 1) + i) < n
  east_in hi hj =
      let k : i < c.columns + 1 = omega arith in
      omega (arith, room c e, digits_lt hj k)

  pub north_in : i < c.columns → j ≤ c.rows → c.rows * c.columns + c.rows * (c.columns + 1) + (j * c.columns + i) < n
  north_in hi hj =
      let k : j < c.rows + 1 = omega arith in
      omega (arith, room c e, digits_lt k hi)

-- and what stands there is what `read_state` reads
module _ (c : Card) (s : List ℤ) (i j : ℕ) where
  pub height_read : get_or s (0 + (j * c.columns + i)) (pos 0) ≡ (read_state c s).height i j
  unfolding read_state
  height_read = rw zero-add

  pub east_read : get_or s (c.rows * c.columns + (j * (c.columns + 1) + i)) (pos 0) ≡ (read_state c s).east i j
  unfolding read_state
  east_read = rw add-one

  pub north_read : get_or s (c.rows * c.columns + c.rows * (c.columns + 1) + (j * c.columns + i)) (pos 0) ≡ (read_state c s).north i j
  unfolding read_state
  north_read = rw (add-one, add_assoc)
