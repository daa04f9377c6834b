-- Refusals by name: none has the number 0, so that an outcome's number says whether it is done.
use Rattle.std.specs.Prelude.{◌≡◌}
use Rattle.std.proofs.Common.{suc-ne-zero}
use Rattle.pins_rules.specs.declared.refusals.PinRefusal.{PinRefusal}
use Rattle.pins_rules.specs.declared.refusals.PinRefusal.TheVariants.{Length, Table, Crew, Chamber, Pinned, Full}
use Rattle.pins_rules.specs.Refusals.{refusal_number}

pub number-ne0 : (r : PinRefusal) → refusal_number r ≡ 0 → ⊥
number-ne0 Length e = absurd (suc-ne-zero _ e)
number-ne0 Table e = absurd (suc-ne-zero _ e)
number-ne0 Crew e = absurd (suc-ne-zero _ e)
number-ne0 Chamber e = absurd (suc-ne-zero _ e)
number-ne0 Pinned e = absurd (suc-ne-zero _ e)
number-ne0 Full e = absurd (suc-ne-zero _ e)
