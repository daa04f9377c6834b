-- `words_fit`: the fold from the first word on is the definition's from the last word back.
use Rattle.std.proofs.Common.{rules, ◌≡◌, ◌∙◌, true, ◌&&◌}
use Rattle.std.proofs.iter.runs.Made.{chains}
use Rattle.std.specs.List.{fold}
use Rattle.pins_rules.specs.Table.{word_fits}
use Rattle.pins_laws.specs.Folds.{words_fold, folded}
use Rattle.pin_table.proofs.words_fit.Goals as goal

pub returns : goal.returns
returns c =
    let gathered : c.fold.result ≡ fold (λ b w. b && word_fits w) true c.args.table.now = search (rules, chains) in
    gathered ∙ folded words_fold c.args.table.now
