-- `run_on`: the front of the tide is as long as the state, and once the steps are done the scratch list is cleared.
use Rattle.std.proofs.Common.{rules, ◌≡◌, ap, ◌∙◌, arith, length, replicate, pos, ℕ}
use lib.Seq.{length-take-le}
use lib.ListN.{length-replicate}
use Rattle.run.proofs.Answers.{run_room, ran}
use Rattle.run.proofs.run_on.Goals as goal

pub steps-tally-requires : goal.steps-tally-requires
steps-tally-requires g c = run_room c.requires (length-take-le (length c.args.state.now) (replicate g.row.N (pos 0)) (omega (arith, c.requires.few, length-replicate g.row.N (pos 0))))

pub returns : goal.returns
returns g c =
    let cleared : c.fill.new.self ≡ replicate (length c.steps-tally.new.scratch) (pos 0) = search rules in
    ran _ _ _ _ _ c.requires.lent c.steps-tally.ensures (cleared ∙ ap (λ (n : ℕ). replicate n (pos 0)) c.steps-tally.auto.scratch)
