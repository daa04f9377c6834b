-- What pumps require of their lists when they act, and what they leave.
use Rattle.std.specs.Prelude.{ℕ, zero, suc, ◌≤◌, ◌<◌, ◌≡◌, true, false, List, ℤ, T, pos, nat_abs, length, get_or, set, Option, Some, None}
use Rattle.std.specs.Int.Signed.{le_z}
use Rattle.rules.specs.declared.Card.{Card}
use Rattle.rules.specs.Pumps.{Pump, adds, takes, height_after, pump_at, pump_count, pumps_fit, pumped, added_by, taken_by, inlets_fit}
use Rattle.laws.specs.Sizes.{Within}
use Rattle.laws.specs.Facts.{Sound}
use Rattle.pumps.specs.declared.OnePump.{OnePump}
use Rattle.pumps.specs.declared.Turn.{Turn}
use Rattle.pumps.specs.declared.Acted.{Acted}

-- a pump that was read
abbrev pub as_pump : OnePump → Pump
as_pump one = record { cell = one.cell; amount = one.amount }

-- ---- one pump at its turn, on a cell of this height

pub record Turning (p : Pump) (height : ℤ) : Type 0 where
  pub amount : Within 1000000 p.amount
  pub height_low : T (le_z (pos 0) height)
  pub height_size : Within 50000000 height

pub record Turned (p : Pump) (height : ℤ) (turn : Turn) : Type 0 where
  pub added : turn.added ≡ adds p
  pub taken : turn.taken ≡ takes p height
  pub after : turn.after ≡ height_after p height

-- ---- all pumps of a list, on the state of a sound site

pub record Pumpable (s ps found : List ℤ) : Type 0 where
  pub card : Card
  pub land : List ℤ
  pub sound : Sound card land s
  pub fit : pumps_fit card ps ≡ true
  pub few : pump_count ps ≤ 64
  pub room : 64 ≤ length found

-- the state with the first n pumps undone, the last one first, given the heights that they found
unfoldable pub back : (pumps found : List ℤ) → ℕ → (state : List ℤ) → List ℤ
back ps found zero s = s
back ps found (suc n) s = back ps found n (set s (nat_abs (pump_at ps n).cell) (get_or found n (pos 0)))

-- where no inlet passes the top: the pumped state, what they added and took, and that it can be undone
pub record AllActed (ps s : List ℤ) (acted : Acted) (s' found : List ℤ) : Type 0 where
  pub fits : inlets_fit ps s ≡ true
  pub state : s' ≡ pumped ps s
  pub added : acted.added ≡ added_by ps
  pub taken : acted.taken ≡ taken_by ps s
  pub undone : back ps found (pump_count ps) s' ≡ s

-- else the state as it was
pub record AllUndone (ps s s' : List ℤ) : Type 0 where
  pub past : inlets_fit ps s ≡ false
  pub as_it_was : s' ≡ s

-- what pumps leave
abbrev pub Pumped : (ps s : List ℤ) (acted : Option Acted) (s' found : List ℤ) → Type 0
Pumped ps s (Some acted) s' found = AllActed ps s acted s' found
Pumped ps s None s' found = AllUndone ps s s'

-- pumps that can be undone: so many of the list, on cells that the state has, and as many heights that they found
pub record Undoable (s ps found : List ℤ) (count : ℕ) : Type 0 where
  pub few : count ≤ pump_count ps
  pub room : count ≤ length found
  pub cells_held : (k : ℕ) → k < count → ((pump_at ps k).cell ≡ pos (nat_abs (pump_at ps k).cell)) × (nat_abs (pump_at ps k).cell < length s)
