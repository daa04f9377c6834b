-- The new velocity of a face, case by case, by either engine: 0 without water, 0 on a dry bank, else the carried part less the slope. Where nothing is carried
-- that is 0 less the slope, and 0 where there is no rise.
use Rattle.std.specs.Prelude.{ℕ, ◌≡◌, refl, Bool, ◌||◌, ℤ, pos, ◌-ℤ◌}
use Rattle.std.proofs.Math.Path.{sym}
use Rattle.std.proofs.Common.{◌∙◌, mul-zero}
use Rattle.std.proofs.Math.Bool.{true, false, or-true}
use Rattle.std.proofs.Math.Nat.{zero-div}
use Rattle.rules.specs.declared.Face.{Face}
use Rattle.rules.specs.Site.{is_zero}
use Rattle.rules.specs.Step.{new_sum, carried, carried_part, slope, dry_bank, new_velocity_by}
use Rattle.laws.specs.Tests.{either_way}
use Rattle.laws.specs.Numbers.{zero-quot}

-- without a rise there is no slope
pub level : (dt d : ℕ) {r : ℤ} → r ≡ pos 0 → slope dt d r ≡ pos 0
unfolding slope
level dt d e = rw (e, mul-zero, zero-div)

module _ (by : Face → ℤ) (dt d : ℕ) (f : Face) where
  pub without_water : is_zero (new_sum f) ≡ true → new_velocity_by by dt d f ≡ pos 0
  unfolding new_velocity_by
  without_water e = rw e

  pub on_a_bank : dry_bank f ≡ true → new_velocity_by by dt d f ≡ pos 0
  unfolding new_velocity_by
  on_a_bank e = rw (e, or-true (is_zero (new_sum f)))

  pub elsewhere : is_zero (new_sum f) ≡ false → dry_bank f ≡ false → new_velocity_by by dt d f ≡ carried_part f -ℤ slope dt d (by f)
  unfolding new_velocity_by
  elsewhere e n = rw (e, n)

  -- where nothing is carried
  module _ (nothing : carried f ≡ pos 0) where
    pub slope_alone : is_zero (new_sum f) ≡ false → dry_bank f ≡ false → new_velocity_by by dt d f ≡ pos 0 -ℤ slope dt d (by f)
    slope_alone e n = elsewhere e n ∙ rw (nothing, zero-quot (new_sum f))

    pub nothing_pulls : by f ≡ pos 0 → new_velocity_by by dt d f ≡ pos 0
    unfolding new_velocity_by
    nothing_pulls r = rw (nothing, level dt d r, zero-quot (new_sum f)) (either_way (is_zero (new_sum f) || dry_bank f) (pos 0))

-- two rises that agree where there is water give the same new velocity
module _ (by by' : Face → ℤ) (dt d : ℕ) (f : Face) (agree : is_zero (new_sum f) ≡ false → by f ≡ by' f) where
  with_or_without : (dry : Bool) → is_zero (new_sum f) ≡ dry → new_velocity_by by dt d f ≡ new_velocity_by by' dt d f
  unfolding new_velocity_by slope
  with_or_without true e = without_water by dt d f e ∙ sym (without_water by' dt d f e)
  with_or_without false e = rw (agree e)

  pub same_rise : new_velocity_by by dt d f ≡ new_velocity_by by' dt d f
  same_rise = with_or_without (is_zero (new_sum f)) refl
