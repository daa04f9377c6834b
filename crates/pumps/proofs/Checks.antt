-- The checks of a site with pumps, from the tests that the code makes: whether the one more list is as long as a state is asked only where the card fits.
use Prim.Native.Nat.{ℕ}
use mathlib.Core.Path.{◌≡◌, refl, sym, ap, ◌∙◌}
use mathlib.Core.Bool.{Bool, true, false, ◌&&◌}
use mathlib.Core.List.{List}
use lib.IntN.{ℤ}
use lib.Dec.{eqb}
use Rattle.rules.specs.declared.Card.{Card}
use Rattle.rules.specs.Site.{card_fits, lengths_fit, values_fit, read_ground, read_state, state_length, check_also}
use Rattle.rules.specs.Pumps.{few_pumps, whole_pumps, pumps_fit, check_pumped_with}
use Rattle.laws.specs.Checks.{by_front}
use Rattle.laws.specs.Facts.{also_after_card}
use Rattle.site.specs.Front.{front_also, values_also, front_passed}

card_first : (whole card long : Bool) → (whole && (card && long)) ≡ (card && (whole && long))
card_first true card long = refl
card_first false true long = refl
card_first false false long = refl

module _ (c : Card) (g s ps : List ℤ) (words : ℕ) {few whole long : Bool} (few-is : few ≡ few_pumps ps) (whole_is : whole ≡ whole_pumps ps) (long_is : long ≡ (card_fits c && eqb words (state_length c))) where
  asked : check_also few (whole && long) (pumps_fit c ps) c g s ≡ check_pumped_with c g s ps words
  unfolding check_pumped_with
  asked =
      rw (few-is, whole_is, long_is, card_first (whole_pumps ps) (card_fits c) (eqb words (state_length c)))
      (also_after_card (few_pumps ps) (whole_pumps ps && eqb words (state_length c)) (pumps_fit c ps) c g s)

  module _ {number : ℕ} (front_is : number ≡ front_also few (whole && long) c g s) where
    -- the front refuses
    pub by_the_front : (number ≡ 0 → ⊥) → number ≡ check_pumped_with c g s ps words
    unfolding check_also front_also
    by_the_front h =
        sym (by_front (few && card_fits c) (whole && long && lengths_fit c g s) (pumps_fit c ps && values_fit c (read_ground c g) (read_state c s)) number front_is h) ∙ asked

    -- it does not, and the values decide, with the pumps
    pub by_the_values : number ≡ 0 → {fit : Bool} → fit ≡ pumps_fit c ps → {r : ℕ} → r ≡ values_also fit c g s → r ≡ check_pumped_with c g s ps words
    by_the_values z fit_is e = e ∙ ap (λ (b : Bool). values_also b c g s) fit_is ∙ front_passed few (whole && long) c g s (sym front_is ∙ z) (pumps_fit c ps) ∙ asked
