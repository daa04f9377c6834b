-- What a sound site with pumps gives a pumped step, and each answer of the step: an inlet past the top, a step that is refused and undone, and one that is accepted.
use Prim.Native.Nat.{ℕ, ◌≤◌}
use mathlib.Core.Path.{◌≡◌, sym, ap, ◌∙◌, subst}
use mathlib.Core.Bool.{cond}
use mathlib.Core.List.{List}
use native.Mathlib.Omega.{arith}
use lib.IntN.{ℤ}
use lib.ListN.{length}
use Rattle.rules.specs.declared.Card.{Card}
use Rattle.rules.specs.declared.refusals.Refusal.{Refusal}
use Rattle.rules.specs.Refusals.{refusal_number}
use Rattle.rules.specs.Site.{read_state}
use Rattle.rules.specs.Step.{Rule, limit_kept, step_number_by, next_state_by}
use Rattle.rules.specs.Pumps.{pump_at, pump_count, pumped, inlets_fit, pumped_number, pumped_step_by}
use Rattle.laws.specs.Facts.{Sound, sound_facts}
use Rattle.laws.specs.Pumped.{pump_facts, each_fits, sound_pumped}
use Rattle.laws.specs.PumpChecks.{at_most_64, added_most, taken_most}
use Rattle.laws.specs.PumpedSteps.{past_number, number-pumped}
use Rattle.transfers.specs.Known.{SoundState}
use Rattle.advance.specs.Advance.{StepRoom, Advanced}
use Rattle.pumps.specs.declared.Acted.{Acted}
use Rattle.pumps.specs.Acting.{Pumpable, AllActed, AllUndone, Undoable}
use Rattle.pumped.specs.Moved.{PumpedRoom, Moved, NotMoved}

module _ {c : Card} {g s ps found t n : List ℤ} (room : PumpedRoom c g s ps found t n) where
  pub pumpable : Pumpable s ps found
  pumpable = record { card = c; land = g; sound = room.sound; fit = room.pumps.fit; few = at_most_64 room.pumps; room = room.room }

  -- ---- an inlet passed the top

  module _ {s' : List ℤ} (p : AllUndone ps s s') where
    pub still_sound : SoundState c s'
    still_sound = record { land = g; site = subst (λ (x : List ℤ). Sound c g x) (sym p.as_it_was) room.sound }

    pub refused_inlet : {rule : Rule} {refusal : Refusal} → refusal_number refusal ≡ cond (limit_kept c (read_state c s')) 5 4 → NotMoved rule c g ps s refusal s'
    unfolding pumped_number
    refused_inlet {rule} e = record {
      number =
          e
          ∙ ap (λ (x : List ℤ). cond (limit_kept c (read_state c x)) 5 4) p.as_it_was
          ∙ sym (past_number (limit_kept c (read_state c s)) (inlets_fit ps s) (step_number_by rule c g (pumped ps s)) p.past);
      undone = p.as_it_was;
    }

  -- ---- none did

  module _ {acted : Acted} {s' found' : List ℤ} (p : AllActed ps s acted s' found') where
    pumped_sound : Sound c g s'
    pumped_sound = subst (λ (x : List ℤ). Sound c g x) (sym p.state) (sound_pumped c ps room.pumps.fit g s p.fits room.sound)

    pub step_room : StepRoom c g s' t n
    step_room = record { sound = pumped_sound; tide = room.tide; next = room.next }

    pub undoable : length found' ≡ length found → Undoable s' ps found' (pump_count ps)
    undoable kept = record {
      few = omega arith;
      room = omega (arith, at_most_64 room.pumps, room.room, kept);
      cells_held = λ k h.
          let f = pump_facts c (pump_at ps k) (each_fits c ps room.pumps.fit k h) in
          (f.whole, omega (arith, f.place, (sound_facts c g s' pumped_sound).lengths.heights));
    }

    -- the step from the pumped state, by a rule
    module _ {rule : Rule} {k : ℕ} {made : List ℤ} (a : Advanced rule c g s' k made) where
      number_is : k ≡ (pumped_step_by rule c g ps).number s
      number_is = a.number ∙ ap (step_number_by rule c g) p.state ∙ sym (number-pumped rule c g ps room.pumps s p.fits)

      pub refused_step : {refusal : Refusal} {last : List ℤ} → refusal_number refusal ≡ k → last ≡ s → NotMoved rule c g ps s refusal last
      refused_step e undone = record { number = e ∙ number_is; undone = undone }

      pub moved : 0 ≡ k → Moved rule c g ps s acted made
      moved e = record {
        number = e ∙ number_is;
        state = a.state (sym e) ∙ ap (next_state_by rule c g) p.state;
        added = p.added;
        taken = p.taken;
        few_added = omega (arith, p.added, added_most c ps room.pumps);
        few_taken = omega (arith, p.taken, taken_most c ps room.pumps s);
      }
