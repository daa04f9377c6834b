-- `stands`: the fold from the first word on is the definition's from the last word back.
use Rattle.std.proofs.Common.{rules, ◌≡◌, ◌∙◌, false, ◌||◌, eqb}
use Rattle.std.proofs.iter.runs.Made.{chains}
use Rattle.std.specs.List.{fold}
use Rattle.pins_laws.specs.Folds.{stands_fold, folded}
use Rattle.pin_table.proofs.stands.Goals as goal

pub returns : goal.returns
returns c =
    let word = c.args.word in
    let gathered : c.fold.result ≡ fold (λ b w. b || eqb w word) false c.args.words.now = search (rules, chains) in
    gathered ∙ folded (stands_fold word) c.args.words.now
