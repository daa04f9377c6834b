-- The textbook's two terms add up to H' times the rise: so their division by H' leaves no rest, and both engines give every face the same new velocity.
use Rattle.std.specs.Prelude.{ℕ, ◌≡◌, false, ℤ, ◌+ℤ◌, ◌-ℤ◌, ◌*ℤ◌}
use Rattle.std.proofs.Common.{◌∙◌}
use Rattle.std.proofs.Math.Path.{sym, ap}
use Rattle.rules.specs.declared.Face.{Face}
use Rattle.rules.specs.Site.{is_zero}
use Rattle.rules.specs.Step.{new_sum, rise, new_velocity}
use Rattle.rules.specs.Textbook.{pressure, pressure_term, ground_term, textbook_rise, textbook_velocity}
use Rattle.laws.specs.Numbers.{sums}
use Rattle.laws.specs.Products.{times_sum, squares, quot_times}
use Rattle.laws.specs.Velocity.{same_rise}

module _ (f : Face) where
  pub terms_are : pressure_term f +ℤ ground_term f ≡ new_sum f *ℤ rise f
  unfolding pressure_term ground_term pressure rise
  terms_are =
      ap (λ (x : ℤ). x +ℤ new_sum f *ℤ (f.ground_l -ℤ f.ground_k)) (sym (squares f.new_k f.new_l))
      ∙ sym (times_sum (new_sum f) (f.new_l -ℤ f.new_k) (f.ground_l -ℤ f.ground_k))
      ∙ ap (λ (x : ℤ). new_sum f *ℤ x) (apart f.new_k f.new_l f.ground_k f.ground_l)
    where
      apart : (h_k h_l z_k z_l : ℤ) → (h_l -ℤ h_k) +ℤ (z_l -ℤ z_k) ≡ (h_l +ℤ z_l) -ℤ (h_k +ℤ z_k)
      apart h_k h_l z_k z_l = simp sums

  module _ (wet : is_zero (new_sum f) ≡ false) where
    pub textbook_rise_lem : textbook_rise f ≡ rise f
    unfolding textbook_rise
    textbook_rise_lem = rw terms_are (quot_times (new_sum f) (rise f) wet)

    -- H' times the quotient is the sum
    pub no_rest : new_sum f *ℤ textbook_rise f ≡ pressure_term f +ℤ ground_term f
    no_rest = ap (λ (x : ℤ). new_sum f *ℤ x) textbook_rise_lem ∙ sym terms_are

  pub one_velocity : (dt d : ℕ) → textbook_velocity dt d f ≡ new_velocity dt d f
  one_velocity dt d = same_rise textbook_rise rise dt d f textbook_rise_lem
