-- The pump at its turn, as the loop reads it: its cell is a place of the state, and what it does there is one turn more, or passes the top.
use Prim.Native.Nat.{ℕ, ◌+◌, ◌≤◌, ◌<◌}
use mathlib.Core.Path.{◌≡◌, sym, ap, ◌∙◌, subst}
use mathlib.Core.Bool.{true, false}
use mathlib.Core.List.{List}
use native.Mathlib.Omega.{arith}
use lib.IntN.{ℤ, pos, nat_abs}
use lib.Signed.{lt_z, non_neg}
use lib.ListN.{length, get_or, set}
use lib.Dec.{T}
use mir.Syntax.{w32, w64}
use mir.Val.{Fits, to_z, of_z}
use Rattle.rules.specs.Pumps.{Pump, pump_at, pump_count, height_at}
use Rattle.laws.specs.Pumped.{adds_amount, takes_amount}
use Rattle.pumps.specs.declared.OnePump.{OnePump}
use Rattle.pumps.specs.declared.Turn.{Turn}
use Rattle.pumps.specs.Acting.{as_pump, Turning, Turned, Pumpable, AllUndone, back}
use Rattle.pumps.proofs.SoFar.{SoFar, AtTurn, at_turn, added_most, taken_most, one_more, one_fails}

module _ {s₀ ps found₀ s found : List ℤ} {added taken k : ℕ} (p : Pumpable s₀ ps found₀) (t : SoFar s₀ ps found₀ s found added taken k) (h : k < pump_count ps)
    {one : OnePump} (one_is : as_pump one ≡ pump_at ps k) (word : to_z w32 (of_z w32 one.cell) ≡ one.cell) where
  abbrev pub cell : ℤ
  cell = to_z w32 (of_z w32 one.cell)

  known : AtTurn ps s k
  known = at_turn p t h

  cell_is : cell ≡ (pump_at ps k).cell
  cell_is = word ∙ ap (λ (q : Pump). q.cell) one_is

  place_is : nat_abs cell ≡ nat_abs (pump_at ps k).cell
  place_is = ap nat_abs cell_is

  pub in_state : nat_abs cell < length s
  in_state = rw place_is known.place

  pub cell_fits : T (non_neg cell) × Fits w64 (nat_abs cell)
  cell_fits = (subst (λ (z : ℤ). T (non_neg z)) (sym (cell_is ∙ known.whole)) tt, record { fits = omega (arith, in_state, known.long) })

  module _ (height_word : to_z w32 (of_z w32 (get_or s (nat_abs cell) (pos 0))) ≡ get_or s (nat_abs cell) (pos 0)) where
    abbrev pub height : ℤ
    height = to_z w32 (of_z w32 (get_or s (nat_abs cell) (pos 0)))

    found_is : height ≡ height_at (pump_at ps k) s
    found_is = height_word ∙ ap (λ (n : ℕ). get_or s n (pos 0)) place_is

    pub turning : Turning (as_pump one) height
    turning = subst (λ (q : Pump). Turning q height) (sym one_is) (subst (Turning (pump_at ps k)) (sym found_is) known.turning)

    module _ {turn : Turn} (turned : Turned (as_pump one) height turn) where
      turned_here : Turned (pump_at ps k) (height_at (pump_at ps k) s) turn
      turned_here = subst (λ (q : Pump). Turned q (height_at (pump_at ps k) s) turn) one_is (subst (λ (z : ℤ). Turned (as_pump one) z turn) found_is turned)

      pub more_added : added + turn.added ≤ 65000000
      more_added = omega (arith, added_most p t, turned_here.added, adds_amount (pump_at ps k), known.turning.amount.size)

      pub more_taken : taken + turn.taken ≤ 65000000
      more_taken = omega (arith, taken_most p t, turned_here.taken, takes_amount (pump_at ps k) (height_at (pump_at ps k) s), known.turning.amount.size)

      module _ (after_word : to_z w32 (of_z w32 turn.after) ≡ turn.after) where
        abbrev pub after : ℤ
        after = to_z w32 (of_z w32 turn.after)

        pub past : lt_z (pos 50000000) after ≡ true → {s' : List ℤ} → s' ≡ back ps found k s → AllUndone ps s₀ s'
        past top e = one_fails t h (after_word ∙ turned_here.after) top e

        pub goes_on : lt_z (pos 50000000) after ≡ false → {a b : ℕ} → a ≡ turn.added → b ≡ turn.taken → SoFar s₀ ps found₀ (set s (nat_abs cell) after) (set found k height) (added + a) (taken + b) (k + 1)
        goes_on top a_is b_is = one_more t h (after_word ∙ turned_here.after) top (omega (arith, t.long, h, p.few, p.room)) place_is found_is (a_is ∙ turned_here.added) (b_is ∙ turned_here.taken)
