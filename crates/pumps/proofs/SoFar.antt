-- Pumps at their turns, in list order: what the loop keeps, what it knows at a turn, and one law for each of its needs.
use Prim.Native.Nat.{ℕ, ◌+◌, ◌≤◌, ◌<◌, zero-le}
use mathlib.Core.Path.{◌≡◌, refl, sym, ap, ◌∙◌, subst}
use mathlib.Core.Bool.{Bool, true, false, not}
use mathlib.Core.List.{List}
use native.Mathlib.Nat.{le_trans, le_antisymm}
use native.Mathlib.Numerals.{add-one}
use native.Mathlib.Omega.{arith}
use lib.IntN.{ℤ, pos, nat_abs}
use lib.Signed.{le_z, lt_z, le_z_yes, lt_z_yes, lt_z_no, clash_ℤ}
use lib.ListN.{length, set, length-set}
use lib.Dec.{T, not_T}
use Rattle.rules.specs.Grid.{all}
use Rattle.rules.specs.Pumps.{pump_at, pump_count, pump_fits, adds, takes, height_after, height_at, after_pump, after_pumps, adds_up_to, takes_up_to, turn_fits, inlets_fit, pumped, added_by, taken_by}
use Rattle.laws.specs.Tests.{to_T, true_of}
use Rattle.laws.specs.Grids.{all_at_lem, all_none, all_more, all_broken, all_end}
use Rattle.laws.specs.Facts.{Sound, sound_facts}
use Rattle.laws.specs.Pumped.{pump_facts, each_fits, sound_afters, adds_most, takes_most}
use Rattle.pumps.specs.Acting.{Turning, Pumpable, AllActed, AllUndone, Undoable, back}
use Rattle.pumps.proofs.Found.{back_more}

pub record SoFar (s₀ ps found₀ s found : List ℤ) (added taken k : ℕ) : Type 0 where
  pub most : k ≤ pump_count ps
  pub long : length found ≡ length found₀
  pub is : s ≡ after_pumps ps k s₀
  pub adds_is : added ≡ adds_up_to ps k
  pub takes_is : taken ≡ takes_up_to ps s₀ k
  pub undone : back ps found k s ≡ s₀
  pub fit : T (all k (turn_fits ps s₀))

pub none_yet : {s₀ ps found₀ : List ℤ} → SoFar s₀ ps found₀ s₀ found₀ 0 0 0
unfolding after_pumps adds_up_to takes_up_to back
none_yet = record { most = zero-le; long = refl; is = refl; adds_is = refl; takes_is = refl; undone = refl; fit = all_none _ }

-- what is known at turn k: its pump's numbers, and the height that it finds
pub record AtTurn (ps s : List ℤ) (k : ℕ) : Type 0 where
  pub whole : (pump_at ps k).cell ≡ pos (nat_abs (pump_at ps k).cell)
  pub place : nat_abs (pump_at ps k).cell < length s
  pub long : length s ≤ 49408
  pub turning : Turning (pump_at ps k) (height_at (pump_at ps k) s)

module _ {s₀ ps found₀ s found : List ℤ} {added taken k : ℕ} (p : Pumpable s₀ ps found₀) (t : SoFar s₀ ps found₀ s found added taken k) where
  fits : (j : ℕ) → j < k → T (pump_fits p.card (pump_at ps j))
  fits j l = each_fits p.card ps p.fit j (omega (arith, t.most))

  sound_now : Sound p.card p.land s
  sound_now = rw t.is (sound_afters p.card ps k p.land s₀ fits (all_at_lem k (turn_fits ps s₀) t.fit) p.sound)

  pub at_turn : k < pump_count ps → AtTurn ps s k
  at_turn h =
      let f = pump_facts p.card (pump_at ps k) (each_fits p.card ps p.fit k h) in
      let now = sound_facts p.card p.land s sound_now in
      record {
        whole = f.whole;
        place = omega (arith, f.place, now.lengths.heights);
        long = omega (arith, now.lengths.state, now.card.state_high);
        turning = record { amount = record { size = f.amount }; height_low = now.height_low _ f.place; height_size = record { size = now.height_high _ f.place } };
      }

  pub few_so_far : k ≤ 64
  few_so_far = omega (arith, t.most, p.few)

  pub added_most : added ≤ 64000000
  added_most = omega (arith, t.adds_is, adds_most p.card ps k fits, few_so_far)

  pub taken_most : taken ≤ 64000000
  taken_most = omega (arith, t.takes_is, takes_most p.card ps s₀ k fits, few_so_far)

  -- the pumps so far, or fewer, can be undone
  pub undoable : {n : ℕ} → n ≤ k → Undoable s ps found n
  undoable l =
      let now = sound_facts p.card p.land s sound_now in
      record {
        few = le_trans l t.most;
        room = omega (arith, l, t.long, p.room, few_so_far);
        cells_held = λ j b. let f = pump_facts p.card (pump_at ps j) (fits j (omega arith)) in (f.whole, omega (arith, f.place, now.lengths.heights));
      }

-- one more turn, and one that would pass the top
module _ {s₀ ps found₀ s found : List ℤ} {added taken k : ℕ} (t : SoFar s₀ ps found₀ s found added taken k) (h : k < pump_count ps) {after : ℤ} (after_is : after ≡ height_after (pump_at ps k) (height_at (pump_at ps k) s)) where
  top_is : le_z after (pos 50000000) ≡ turn_fits ps s₀ k
  unfolding turn_fits
  top_is = rw (after_is, t.is)

  pub one_more : lt_z (pos 50000000) after ≡ false → k < length found → {cell : ℕ} → cell ≡ nat_abs (pump_at ps k).cell → {height : ℤ} → height ≡ height_at (pump_at ps k) s
      → {plus : ℕ} → plus ≡ adds (pump_at ps k) → {less : ℕ} → less ≡ takes (pump_at ps k) (height_at (pump_at ps k) s)
      → SoFar s₀ ps found₀ (set s cell after) (set found k height) (added + plus) (taken + less) (k + 1)
  unfolding after_pumps after_pump adds_up_to takes_up_to
  one_more top room {cell} cell_is {height} height_is plus_is less_is =
      record {
        most = omega arith;
        long = length-set found k height ∙ t.long;
        is = rw (cell_is, after_is, t.is, add-one);
        adds_is = rw (plus_is, t.adds_is, add-one);
        takes_is = rw (less_is, t.takes_is, t.is, add-one);
        undone = rw cell_is (back_more ps found k height s after room height_is ∙ t.undone);
        fit = all_more k (turn_fits ps s₀) t.fit (subst T top_is (lt_z_no {a = pos 50000000} {b = after} (to_T (ap not top))).le);
      }

  pub one_fails : lt_z (pos 50000000) after ≡ true → {s' : List ℤ} → s' ≡ back ps found k s → AllUndone ps s₀ s'
  unfolding inlets_fit
  one_fails top e =
      let no : inlets_fit ps s₀ ≡ false = all_broken (pump_count ps) (turn_fits ps s₀) k h (subst (λ (b : Bool). T (not b)) top_is (not_T (le_z after (pos 50000000)) (λ y. clash_ℤ {a = pos 50000000} {b = after} (lt_z_yes (to_T top)) (le_z_yes y)))) in
      record { past = no; as_it_was = e ∙ t.undone }

pub all_done : {s₀ ps found₀ s found : List ℤ} {added taken k : ℕ} → SoFar s₀ ps found₀ s found added taken k → pump_count ps ≤ k
    → AllActed ps s₀ (record { added = added; taken = taken }) s found
unfolding inlets_fit pumped added_by taken_by
all_done {s₀} {ps} {found₀} {s} {found} {added} {taken} {k} t h =
    let all_turns : k ≡ pump_count ps = le_antisymm t.most h in
    record {
      fits = true_of _ (all_end (pump_count ps) k (turn_fits ps s₀) t.most h t.fit);
      state = t.is ∙ ap (λ (n : ℕ). after_pumps ps n s₀) all_turns;
      added = t.adds_is ∙ ap (adds_up_to ps) all_turns;
      taken = t.takes_is ∙ ap (takes_up_to ps s₀) all_turns;
      undone = ap (λ (n : ℕ). back ps found n s) (sym all_turns) ∙ t.undone;
    }
