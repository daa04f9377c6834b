-- A list that holds a water in a state's layout, read by index: which place the word is of.
use Rattle.std.specs.Prelude.{ℕ, suc, ◌+◌, ◌*◌, ◌≤◌, ◌<◌, ◌≡◌, List, ℤ, pos, length, get_or}
use Rattle.std.proofs.Common.{ap, ◌∙◌}
use Rattle.rules.specs.declared.Card.{Card}
use Rattle.rules.specs.Site.{Water, read_state, write_state, state_length}
use Rattle.laws.specs.States.{height_back, east_back, north_back, length_state}

-- a record, so that the card and the water are inferred from it
pub record Holds (c : Card) (w : Water) (l : List ℤ) : Type 0 where
  pub is : l ≡ write_state c w

module _ {c : Card} {w : Water} {l : List ℤ} (h : Holds c w l) where
  pub long_of : length l ≡ state_length c
  long_of = ap length h.is ∙ length_state c w

  module _ (i j : ℕ) where
    pub height_read : {k : ℕ} → i < c.columns → j < c.rows → k ≡ j * c.columns + i → get_or l k (pos 0) ≡ w.height i j
    unfolding read_state
    height_read hi hj e = rw (h.is, e) (height_back c w i j hi hj)

    pub east_read : {k : ℕ} → i ≤ c.columns → j < c.rows → k ≡ c.rows * c.columns + (j * suc c.columns + i) → get_or l k (pos 0) ≡ w.east i j
    unfolding read_state
    east_read hi hj e = rw (h.is, e) (east_back c w i j hi hj)

    pub north_read : {k : ℕ} → i < c.columns → j ≤ c.rows → k ≡ c.rows * c.columns + (c.rows * suc c.columns + (j * c.columns + i))
        → get_or l k (pos 0) ≡ w.north i j
    unfolding read_state
    north_read hi hj e = rw (h.is, e) (north_back c w i j hi hj)
