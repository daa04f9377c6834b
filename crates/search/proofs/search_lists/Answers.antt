-- `search_lists`: the checks' refusal where there is one, and elsewhere what is reported.
use Rattle.std.proofs.Common.{rules}
use mathlib.Core.Path.{sym, ◌∙◌, subst}
use lib.IntN.{ℤ}
use mir.Facts.{to_z-of_z}
use Rattle.laws.specs.Refusing.{number-ne0}
use Rattle.search.specs.Reported.{Reported}
use Rattle.search.proofs.Answers.{checked_of, refused, answered}
use Rattle.search.proofs.search_lists.Goals as goal

pub returns-in-Err : goal.returns-in-Err
returns-in-Err c =
    let a = c.args in
    refused a.card a.land.now a.state.now a.xs.now a.ys.now a.window a.depth a.found.now c.from.result
    (c.from.ensures ∙ c.in-Err.ensures ∙ simp (to_z-of_z c.ranges.depth))
    (λ z. number-ne0 c.in-Err.refusal (sym c.from.ensures ∙ z))

pub report-requires : goal.report-requires
report-requires c =
    let a = c.args in
    record {
      checked = rw (to_z-of_z c.ranges.depth) (checked_of a.card a.land.now a.state.now a.xs.now a.ys.now a.window a.depth (sym (c.in_default.ensures ∙ simp (to_z-of_z c.ranges.depth))));
      draft_long = search rules;
    }

pub returns : goal.returns
returns c =
    let a = c.args in
    answered a.card a.land.now a.state.now a.xs.now a.ys.now a.window a.depth a.found.now c.report.result c.report.new.found (sym (c.in_default.ensures ∙ simp (to_z-of_z c.ranges.depth)))
    (subst (λ (z : ℤ). Reported a.card a.state.now a.xs.now a.ys.now a.window z a.found.now c.report.result c.report.new.found) (to_z-of_z c.ranges.depth) c.report.ensures)
