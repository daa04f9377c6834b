-- `crew_number`: each number where its test is the first that does not pass.
use native.Mathlib.Omega.{arith}
use mathlib.Core.Path.{sym, ◌∙◌}
use Rattle.rules.specs.Site.{first_refusal}
use Rattle.pins_rules.specs.Calls.{crew_number}
use Rattle.pin_numbers.proofs.crew_number.Goals as goal

pub returns-then-not-lengths : goal.returns-then-not-lengths
unfolding crew_number first_refusal
returns-then-not-lengths c = rw c.if-not-lengths.true

pub table_fits-requires : goal.table_fits-requires
table_fits-requires c = omega (arith, c.requires c.if-not-lengths.false)

pub returns-then-not-table_fits : goal.returns-then-not-table_fits
unfolding crew_number first_refusal
returns-then-not-table_fits c = rw (c.if-not-lengths.false, sym c.table_fits.ensures ∙ c.if-not-table_fits.true)

pub returns-then-not-is_crew : goal.returns-then-not-is_crew
unfolding crew_number first_refusal
returns-then-not-is_crew c = rw (c.if-not-lengths.false, sym c.table_fits.ensures ∙ c.if-not-table_fits.false, sym c.is_crew.ensures ∙ c.if-not-is_crew.true)

pub returns : goal.returns
unfolding crew_number first_refusal
returns c = rw (c.if-not-lengths.false, sym c.table_fits.ensures ∙ c.if-not-table_fits.false, sym c.is_crew.ensures ∙ c.if-not-is_crew.false)
