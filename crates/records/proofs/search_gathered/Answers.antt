-- `search_gathered`: over 1,000 chambers are refused here, and the others are searched.
use mathlib.Core.Path.{◌∙◌, refl, subst}
use native.Mathlib.Nat.{not-le_of_lt}
use lib.IntN.{ℤ}
use mir.Facts.{to_z-of_z}
use Rattle.records.specs.Gathered.{PartsContract}
use Rattle.records.proofs.search_gathered.Goals as goal

pub returns-then-n-gt1000 : goal.returns-then-n-gt1000
returns-then-n-gt1000 c = record { many = λ h. (rw (c.outcome_number.ensures ∙ c.front-front.ensures), refl); few = λ h. absurd (not-le_of_lt c.if-n-gt1000.true h) }

pub returns : goal.returns
returns c =
    let a = c.args in
    record {
      many = λ h. absurd (not-le_of_lt h c.if-n-gt1000.false);
      few = λ h.
          subst (λ (z : ℤ). PartsContract a.card a.land.now a.state.now a.both a.n a.window z a.found.now c.search_parts.result c.search_parts.new.found) (to_z-of_z c.ranges.depth) c.search_parts.ensures;
    }
