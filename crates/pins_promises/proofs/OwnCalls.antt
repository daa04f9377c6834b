-- Why a crew's answers depend on its own calls only: two sound tables in which it has the same pins answer it alike, and stay so by its own calls on both and by
-- the other crew's calls on one.
use Prim.Native.Nat.{ℕ, zero, suc, ◌<◌}
use Rattle.std.specs.Prelude.{◌≡◌, Bool, cond, not, ◌&&◌, ltb}
use Rattle.std.proofs.Math.Path.{refl, sym, ap, ap₂, subst}
use Rattle.std.proofs.Common.{◌∙◌, eqb-true}
use Rattle.std.proofs.Math.Bool.{true, false}
use mathlib.Core.List.{List, [], ◌∷◌, ◌++◌}
use Rattle.std.proofs.Math.ListN.{length, drop}
use Rattle.std.proofs.Math.Dec.{eqb}
use Rattle.std.proofs.lemmas.Bool.{eqb-false}
use Rattle.rules.specs.Site.{first_refusal, if_done}
use Rattle.laws.specs.PutIn.{places_same}
use Rattle.laws.specs.Outcomes.{first_same, if_same}
use Rattle.pins_rules.specs.declared.Listing.{Listing}
use Rattle.pins_rules.specs.Table.{is_crew, pinned, held, pins_of, with_pin, without_pin}
use Rattle.pins_rules.specs.Calls.{unless, crew_number, chamber_number, add_number, add_table, remove_number, remove_table, list_number, list_answer, list_found}
use Rattle.pins_laws.specs.Words.{Crew}
use Rattle.pins_laws.specs.Counts.{as_many_as_held}
use Rattle.pins_laws.specs.Sound.{Sound, Left, pin_comes, pin_goes}
use Rattle.pins_laws.specs.Granted.{chamber_granted, add_granted, remove_granted, list_granted, sound_crew, sound_sized, sound_chamber}
use Rattle.pins_promises.specs.OneCall.{stays_sound, others_keep}
use Rattle.pins_promises.specs.Histories.{Call, add, remove, list, Answer, by, answer, after, calls_of, answers_to}

-- ---- two tables in which a crew has the same pins

pub record Alike (crew : ℕ) (one other : List ℕ) : Type 0 where
  pub first : Sound one
  pub second : Sound other
  pub same : Crew crew → (chamber : ℕ) → chamber < 1000 → pinned one crew chamber ≡ pinned other crew chamber

module _ {crew : ℕ} {one other : List ℕ} (a : Alike crew one other) where
  same_pins : Crew crew → pins_of one crew ≡ pins_of other crew
  unfolding pins_of
  same_pins k = places_same 1000 (pinned one crew) (pinned other crew) (a.same k)

  same_held : Crew crew → held crew one ≡ held crew other
  same_held k =
      sym (as_many_as_held crew k one a.first.words a.first.once) ∙ ap length (same_pins k) ∙ as_many_as_held crew k other a.second.words a.second.once

  same_chamber_number : (chamber : ℕ) → chamber_number one crew chamber ≡ chamber_number other crew chamber
  same_chamber_number chamber = sound_chamber crew chamber a.first ∙ sym (sound_chamber crew chamber a.second)

  -- the same numbers
  same_add : (chamber : ℕ) → add_number one crew chamber ≡ add_number other crew chamber
  unfolding add_number
  same_add chamber =
      first_same (chamber_number one crew chamber) (λ e.
      let g = chamber_granted one crew chamber e in
      ap₂ (λ (b : Bool) (n : ℕ). first_refusal (unless (not b) 13) (unless (ltb n 32) 14)) (a.same g.known chamber g.below) (same_held g.known))
      ∙ ap (λ (n : ℕ). first_refusal n (first_refusal (unless (not (pinned other crew chamber)) 13) (unless (ltb (held crew other) 32) 14))) (same_chamber_number chamber)

  same_remove : (chamber : ℕ) → remove_number one crew chamber ≡ remove_number other crew chamber
  unfolding remove_number
  same_remove chamber =
      first_same (chamber_number one crew chamber) (λ e. let g = chamber_granted one crew chamber e in ap (λ (b : Bool). unless b 13) (a.same g.known chamber g.below))
      ∙ ap (λ (n : ℕ). first_refusal n (unless (pinned other crew chamber) 13)) (same_chamber_number chamber)

  same_list : (found : List ℕ) → list_number one crew found ≡ list_number other crew found
  unfolding list_number
  same_list found = to one a.first ∙ sym (to other a.second)
    where
      to : (table : List ℕ) → Sound table → crew_number (eqb (length table) 64 && eqb (length found) 32) table crew ≡ first_refusal (unless (true && eqb (length found) 32) 2) (unless (is_crew crew) 11)
      to table s = sound_crew (eqb (length table) 64 && eqb (length found) 32) crew s ∙ rw (sound_sized s)

  -- and where a listing is done, the same of the same pins
  same_left : {A : Type 0} (done : List ℕ → A) (refused : A) (found : List ℕ)
      → if_done (list_number one crew found) (done (pins_of one crew)) refused ≡ if_done (list_number other crew found) (done (pins_of other crew)) refused
  same_left done refused found =
      if_same (list_number one crew found) refused (λ e. ap done (same_pins (list_granted one crew found e).known))
      ∙ ap (λ (n : ℕ). if_done n (done (pins_of other crew)) refused) (same_list found)

  same_listing : (found : List ℕ) → list_answer one crew found ≡ list_answer other crew found
  unfolding list_answer
  same_listing found = ap₂ answered (same_list found) (same_left length 0 found)
    where
      answered : ℕ → ℕ → Listing
      answered n k = record { number = n; count = k }

  same_found : (found : List ℕ) → list_found one crew found ≡ list_found other crew found
  unfolding list_found
  same_found found = same_left (λ pins. pins ++ drop (length pins) found) found found

  -- so every answer is the same, what a listing leaves in the lent list too
  pub same_answer : (call : Call) → by call ≡ crew → answer one call ≡ answer other call
  unfolding by answer
  same_answer (add whose chamber) e = cc (same_add chamber)
  same_answer (remove whose chamber) e = cc (same_remove chamber)
  same_answer (list whose found) e = cc (same_listing found, same_found found)

  -- ---- and the tables stay alike

  -- behind the same pin that came, or went, in both
  alike_left : {one' other' : List ℕ} (chamber : ℕ) (now : Bool) → Left one crew chamber now one' → Left other crew chamber now other' → Alike crew one' other'
  alike_left {one'} {other'} chamber now l r = record { first = l.still_sound; second = r.still_sound; same = λ k which h. go k which h (eqb chamber which) refl }
    where
      go : Crew crew → (which : ℕ) → which < 1000 → (b : Bool) → eqb chamber which ≡ b → pinned one' crew which ≡ pinned other' crew which
      go k which h true e = subst (λ (n : ℕ). pinned one' crew n ≡ pinned other' crew n) (eqb-true chamber which e) (l.this ∙ sym r.this)
      go k which h false e =
          let else : crew ≡ crew → chamber ≡ which → ⊥ = λ _ z. eqb-false chamber which e z in
          l.others k h else ∙ a.same k which h ∙ sym (r.others k h else)

  -- done in both, or refused in both
  ends_alike : (number number' : ℕ) (done done' : List ℕ) → number ≡ number' → (number ≡ 0 → number' ≡ 0 → Alike crew done done') → Alike crew (if_done number done one) (if_done number' done' other)
  unfolding if_done
  ends_alike zero number' done done' e f = subst (λ (n : ℕ). Alike crew done (if_done n done' other)) e (f refl (sym e))
  ends_alike (suc n) number' done done' e f = subst (λ (n : ℕ). Alike crew one (if_done n done' other)) e a

  add_alike : (chamber : ℕ) → Alike crew (add_table one crew chamber) (add_table other crew chamber)
  unfolding add_table
  add_alike chamber = ends_alike (add_number one crew chamber) (add_number other crew chamber) (with_pin crew chamber one) (with_pin crew chamber other) (same_add chamber)
      (λ e e'.
      let g = add_granted one crew chamber e in
      let g' = add_granted other crew chamber e' in
      alike_left chamber true (pin_comes a.first g.asked.known g.asked.below g.room g.new) (pin_comes a.second g'.asked.known g'.asked.below g'.room g'.new))

  remove_alike : (chamber : ℕ) → Alike crew (remove_table one crew chamber) (remove_table other crew chamber)
  unfolding remove_table
  remove_alike chamber = ends_alike (remove_number one crew chamber) (remove_number other crew chamber) (without_pin crew chamber one) (without_pin crew chamber other) (same_remove chamber)
      (λ e e'.
      let g = remove_granted one crew chamber e in
      let g' = remove_granted other crew chamber e' in
      alike_left chamber false (pin_goes a.first g.asked.known g.asked.below g.there) (pin_goes a.second g'.asked.known g'.asked.below g'.there))

  -- by this crew's call on both
  own_alike : (call : Call) → by call ≡ crew → Alike crew (after one call) (after other call)
  unfolding by after
  own_alike (add whose chamber) e = subst (λ (c : ℕ). Alike crew (add_table one c chamber) (add_table other c chamber)) (sym e) (add_alike chamber)
  own_alike (remove whose chamber) e = subst (λ (c : ℕ). Alike crew (remove_table one c chamber) (remove_table other c chamber)) (sym e) (remove_alike chamber)
  own_alike (list whose found) e = a

  -- by another crew's call on the first
  pub others_alike : (call : Call) → (by call ≡ crew → ⊥) → Alike crew (after one call) other
  others_alike call differs = record {
    first = stays_sound one call a.first;
    second = a.second;
    same = λ k chamber h. others_keep one call crew chamber differs k h ∙ a.same k chamber h;
  }

-- ---- a crew's answers in a history are those that its own calls alone would have had

pub alone_from : (crew : ℕ) (history : List Call) (one other : List ℕ) → Alike crew one other → answers_to crew one history ≡ answers_to crew other (calls_of crew history)
unfolding answers_to calls_of
alone_from crew [] one other a = refl
alone_from crew (call ∷ later) one other a = go (eqb (by call) crew) refl (alone_from crew later)
  where
    go : (b : Bool) → eqb (by call) crew ≡ b → ((t t' : List ℕ) → Alike crew t t' → answers_to crew t later ≡ answers_to crew t' (calls_of crew later))
        → cond b (answer one call ∷ answers_to crew (after one call) later) (answers_to crew (after one call) later) ≡ answers_to crew other (cond b (call ∷ calls_of crew later) (calls_of crew later))
    go true e next =
        let own = eqb-true (by call) crew e in
        ap₂ (λ (x : Answer) (l : List Answer). x ∷ l) (same_answer a call own) (next (after one call) (after other call) (own_alike a call own))
        ∙ ap (λ (b : Bool). cond b (answer other call ∷ answers_to crew (after other call) (calls_of crew later)) (answers_to crew (after other call) (calls_of crew later))) (sym e)
    go false e next = next (after one call) other (others_alike a call (eqb-false (by call) crew e))
