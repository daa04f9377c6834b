-- `search_check`: the front's refusal, and where there is none the values'.
use mathlib.Core.Path.{◌≡◌, sym, ◌∙◌}
use Rattle.std.proofs.Common.{rules}
use Rattle.rules.specs.Refusals.{refusal_number, outcome_number}
use Rattle.laws.specs.Refusing.{number-ne0}
use mir.Facts.{to_z-of_z}
use Rattle.rules.specs.Site.{check_also}
use Rattle.rules.specs.Search.{register_fits}
use Rattle.rules.specs.Calls.{search_check}
use Rattle.laws.specs.Checks.{by_front}
use Rattle.site.specs.Front.{front_also, front_sized, front_passed}
use Rattle.search.proofs.search_check.Goals as goal

pub returns-in_err-front : goal.returns-in_err-front
unfolding search_check check_also front_also register_fits
returns-in_err-front c =
    let same : outcome_number c.from_residual.result ≡ refusal_number c.in_err-front.field-0.0 = search rules in
    same ∙ sym (by_front _ _ _ _ c.in_err-front.ensures (number-ne0 c.in_err-front.field-0.0))

pub asked_fits-asked-requires : goal.asked_fits-asked-requires
asked_fits-asked-requires c = (front_sized _ _ _ _ _ (sym c.in_ok-front.ensures)).card

pub values_number-requires : goal.values_number-requires
values_number-requires c = front_sized _ _ _ _ _ (sym c.in_ok-front.ensures)

pub returns : goal.returns
unfolding search_check register_fits
returns c = c.values_number.ensures
    ∙ front_passed _ _ _ _ _ (sym c.in_ok-front.ensures) _
    ∙ rw (c.asked_fits-asked.ensures, to_z-of_z c.ranges.depth)
