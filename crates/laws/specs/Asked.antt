-- What the checks of a search say where they give 0, as facts that a proof can use; and the call's number and places, where they give 0 and where not.
use Rattle.std.specs.Prelude.{◌≡◌, ℕ, ◌*◌, ◌≤◌, ℤ, length}
use Rattle.std.proofs.Common.{◌∙◌}
use Rattle.std.proofs.Math.Path.{ap}
use Rattle.std.proofs.Math.Bool.{true, cond}
use mathlib.Core.List.{List, []}
use Rattle.std.proofs.Math.Dec.{leb, eqb, leb→le, eqb→eq}
use Rattle.rules.specs.declared.Card.{Card}
use Rattle.rules.specs.declared.Window.{Window}
use Rattle.rules.specs.Site.{height_fits}
use Rattle.rules.specs.Search.{register_fits, all_along, asked_fits, edges_finite, list_of}
use Rattle.rules.specs.Calls.{search_check, search_places, search_number}
use Rattle.laws.specs.Tests.{and_left, and_right, four_of, true_of}
use Rattle.laws.specs.Facts.{Sound, granted}
use Rattle.laws.specs.Outcomes.{first_refused, first_passed, if_done_lem, if_refused}

pub record Asked (c : Card) (g s xs ys : List ℤ) (w : Window) (depth : ℤ) : Type 0 where
  pub sound : Sound c g s
  pub same : length xs ≡ length ys
  pub few : length xs ≤ 1000
  pub x_fits : all_along (c.columns * c.dx) xs ≡ true
  pub y_fits : all_along (c.rows * c.dy) ys ≡ true
  pub depth_fits : height_fits depth ≡ true
  pub edges_finite_is : edges_finite w ≡ true

module _ (c : Card) (g s xs ys : List ℤ) (w : Window) (depth : ℤ) where
  pub asked_facts : search_check c g s xs ys w depth ≡ 0 → Asked c g s xs ys w depth
  unfolding search_check register_fits asked_fits
  asked_facts e =
      let a = granted true (register_fits xs ys) (asked_fits c xs ys w depth) c g s e in
      let same = eqb (length xs) (length ys) in
      let few = leb (length xs) 1000 in
      let asked = four_of (all_along (c.columns * c.dx) xs) (all_along (c.rows * c.dy) ys) (height_fits depth) (edges_finite w) a.for_3 in
      record {
        sound = a.sound;
        same = eqb→eq (length xs) (length ys) (and_left same few a.for_2);
        few = leb→le (length xs) 1000 (and_right same few a.for_2);
        x_fits = true_of (all_along (c.columns * c.dx) xs) asked.one;
        y_fits = true_of (all_along (c.rows * c.dy) ys) asked.two;
        depth_fits = true_of (height_fits depth) asked.three;
        edges_finite_is = true_of (edges_finite w) asked.four;
      }

  -- ---- the places and the number: the checks pass

  pub places_passed : search_check c g s xs ys w depth ≡ 0 → search_places c g s xs ys w depth ≡ list_of c s w depth xs ys
  unfolding search_places
  places_passed e = if_done_lem _ _ _ e

  pub number_passed : (found : List ℕ) → search_check c g s xs ys w depth ≡ 0 → search_number c g s xs ys w depth found ≡ cond {A = ℕ} (leb (length (list_of c s w depth xs ys)) (length found)) 0 8
  unfolding search_number
  number_passed found e = first_passed _ _ e ∙ ap (λ (l : List ℕ). cond {A = ℕ} (leb (length l) (length found)) 0 8) (places_passed e)

  -- ---- the checks refuse

  pub places_refused : (search_check c g s xs ys w depth ≡ 0 → ⊥) → search_places c g s xs ys w depth ≡ []
  unfolding search_places
  places_refused h = if_refused _ _ _ h

  pub number_refused : (found : List ℕ) → (search_check c g s xs ys w depth ≡ 0 → ⊥) → search_number c g s xs ys w depth found ≡ search_check c g s xs ys w depth
  unfolding search_number
  number_refused found h = first_refused _ _ h
