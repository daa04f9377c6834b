-- Refusals by name: none has the number 0, so that the number of an outcome says whether it is done.
use Rattle.std.specs.Prelude.{◌≡◌}
use Rattle.std.proofs.Common.{suc-ne-zero}
use Rattle.rules.specs.declared.refusals.Refusal.{Refusal}
use Rattle.rules.specs.declared.refusals.Refusal.TheVariants.{Card, Length, Value, StepLimit, TooHigh, TooFast, Room, Sheet, Raster}
use Rattle.rules.specs.Refusals.{refusal_number}

pub number-ne0 : (r : Refusal) → refusal_number r ≡ 0 → ⊥
number-ne0 Card e = absurd (suc-ne-zero _ e)
number-ne0 Length e = absurd (suc-ne-zero _ e)
number-ne0 Value e = absurd (suc-ne-zero _ e)
number-ne0 StepLimit e = absurd (suc-ne-zero _ e)
number-ne0 TooHigh e = absurd (suc-ne-zero _ e)
number-ne0 TooFast e = absurd (suc-ne-zero _ e)
number-ne0 Room e = absurd (suc-ne-zero _ e)
number-ne0 Sheet e = absurd (suc-ne-zero _ e)
number-ne0 Raster e = absurd (suc-ne-zero _ e)
