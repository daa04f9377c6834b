-- The value of a decimal that was read, in micrometres; and what `ok` keeps of an answer.
use Rattle.std.specs.Prelude.{ℕ, ◌≡◌, Bool, true, false, cond, List, ℤ, refl, Option, Some, None, Result, Ok, Err}
use Rattle.std.specs.Result.{result_ok}
use Rattle.std.proofs.Common.{ap, ◌∙◌}
use Rattle.decimals.specs.declared.signs.Decimal.{Decimal}
use Rattle.decimals.specs.declared.signs.NoDecimal.{NoDecimal}
use Rattle.rules.specs.Raster.{is_minus, unsigned, size_of, signed, is_decimal, decimal_value}
use Rattle.raster_laws.specs.Found.{is_that}

abbrev pub value_of : Decimal → ℤ
value_of d = signed d.minus d.size

module _ (word : List ℕ) where
  abbrev decimal : Decimal
  decimal = record { minus = is_minus word; size = size_of (unsigned word) }

  -- it is that of its word
  pub value_is : {d : Decimal} → Some d ≡ cond (is_decimal word) (Some decimal) None → value_of d ≡ decimal_value word
  unfolding decimal_value
  value_is e = ap value_of (is_that (is_decimal word) _ e)

  -- the decimal alone, by `ok`
  pub alone : {r : Result Decimal NoDecimal} {o : Option Decimal} → r ≡ cond (is_decimal word) (Ok decimal) (Err (record { minus = is_minus word })) → o ≡ result_ok r
      → o ≡ cond (is_decimal word) (Some decimal) None
  alone e f = f ∙ ap result_ok e ∙ go (is_decimal word)
    where
      go : (t : Bool) → result_ok {E = NoDecimal} (cond t (Ok decimal) (Err (record { minus = is_minus word }))) ≡ cond t (Some decimal) None
      go true = refl
      go false = refl
