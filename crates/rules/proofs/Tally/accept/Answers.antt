-- `accept`: std's larger of two is the rules'.
use Rattle.std.proofs.Common.{◌≡◌, ◌+◌, ap, ◌∙◌, ℤ, rules, w32, FitsSigned}
use mir.Facts.{to_z-of_z}
use Rattle.std.specs.Int.{int_max}
use Rattle.rules.specs.declared.Tally.{Tally}
use Rattle.rules.specs.Run.{accepted}
use Rattle.rules.specs.Pumps.{one_more}
use Rattle.rules.proofs.Larger.{larger}
use Rattle.rules.proofs.Tally.accept.Goals as goal

pub returns : goal.returns
unfolding accepted one_more
returns c =
    let t = c.args.self in
    let old : FitsSigned w32 t.top = search rules in
    let new : FitsSigned w32 c.args.peak = search rules in
    let greater : FitsSigned w32 c.max.result = search rules in
    let topped : ℤ → Tally = λ z. record { steps = t.steps + 1; reason = t.reason; top = z; added = t.added + c.args.added; taken = t.taken + c.args.taken } in
    let value : c.max.result ≡ int_max t.top c.args.peak = simp to_z-of_z at c.max.ensures.value in
    simp to_z-of_z (ap topped (value ∙ larger t.top c.args.peak))
