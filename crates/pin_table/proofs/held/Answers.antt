-- `held`: the sum of what each word counts for, 1 where it is this crew's.
use Rattle.std.proofs.Common.{rules, ◌≡◌, ◌∙◌, eqb}
use Rattle.std.specs.List.{count_by}
use Rattle.pins_rules.specs.Table.{crew_of}
use Rattle.pins_laws.specs.Folds.{held_fold, folded}
use Rattle.pin_table.proofs.held.Goals as goal

pub returns : goal.returns
returns c =
    let crew = c.args.crew in
    let counted : c.sum.result ≡ count_by (λ w. eqb (crew_of w) crew) c.args.table.now = search rules in
    counted ∙ folded (held_fold crew) c.args.table.now
