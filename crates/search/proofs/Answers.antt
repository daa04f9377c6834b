-- What the search answers: the checks' number where it is not 0, and elsewhere what is reported.
use mathlib.Core.Path.{◌≡◌, refl, sym, ◌∙◌, ap, ap₂}
use mathlib.Core.Bool.{Bool, true, false, cond}
use mathlib.Core.List.{List, ◌++◌}
use Prim.Native.Nat.{ℕ}
use native.Mathlib.Omega.{arith}
use lib.Dec.{leb}
use lib.IntN.{ℤ}
use lib.ListN.{length, drop}
use Rattle.rules.specs.declared.Card.{Card}
use Rattle.rules.specs.declared.Window.{Window}
use Rattle.rules.specs.declared.Found.{Found}
use Rattle.rules.specs.Site.{heights_fit, read_state, if_done}
use Rattle.rules.specs.Search.{list_of}
use Rattle.rules.specs.Calls.{search_check, search_places, search_number, search_answer, search_found}
use Rattle.rules.specs.PublicContracts.{SearchContract}
use Rattle.laws.specs.Asked.{asked_facts, places_passed, places_refused, number_passed, number_refused}
use Rattle.laws.specs.Facts.{length_facts, sound_depths}
use Rattle.laws.specs.Outcomes.{if_refused}
use Rattle.laws.specs.Tests.{true_of}
use Rattle.register.specs.Checked.{Checked}
use Rattle.search.specs.Reported.{Reported}

-- what a call leaves where there is room for its list, and where not
room : (enough : Bool) (done refused : List ℕ) → if_done (cond enough 0 8) done refused ≡ cond enough done refused
unfolding if_done
room true done refused = refl
room false done refused = refl

module _ (c : Card) (g s xs ys : List ℤ) (w : Window) (depth : ℤ) where
  -- what is known where the checks give 0
  pub checked_of : search_check c g s xs ys w depth ≡ 0 → Checked c s xs ys depth
  checked_of e =
      let a = asked_facts c g s xs ys w depth e in
      let long = length_facts c g s a.sound.lengths in
      record { card = a.sound.card; heights = omega arith; kept = true_of (heights_fit c (read_state c s)) (sound_depths c g s a.sound); asked = a.depth_fits; same = a.same; few = a.few; x_fits = a.x_fits; y_fits = a.y_fits }

  module _ (lent : List ℕ) where
    pub refused : (n : ℕ) → n ≡ search_check c g s xs ys w depth → (n ≡ 0 → ⊥) → SearchContract c g s xs ys w depth lent (record { number = n; count = 0 }) lent
    unfolding search_answer search_found
    refused n e h =
        let number : n ≡ search_number c g s xs ys w depth lent = e ∙ sym (number_refused c g s xs ys w depth lent (λ z. h (e ∙ z))) in
        let count : 0 ≡ length (search_places c g s xs ys w depth) = sym (ap length (places_refused c g s xs ys w depth (λ z. h (e ∙ z)))) in
        record { answer = λ i. record { number = number i; count = count i }; found_exit = sym (if_refused _ _ _ (λ z. h (number ∙ z))) }

    pub answered : (r : Found) (left : List ℕ) → search_check c g s xs ys w depth ≡ 0 → Reported c s xs ys w depth lent r left → SearchContract c g s xs ys w depth lent r left
    unfolding search_answer search_found
    answered r left e a =
        let number = number_passed c g s xs ys w depth lent e in
        let places = places_passed c g s xs ys w depth e in
        let count = a.count ∙ sym (ap length places) in
        record {
          answer = λ i. record { number = (a.number ∙ sym number) i; count = count i };
          found_exit = a.list
              ∙ sym (room (leb (length (list_of c s w depth xs ys)) (length lent)) _ _)
              ∙ sym (ap₂ (λ (k : ℕ) (l : List ℕ). if_done k (l ++ drop (length l) lent) lent) number places);
        }
