-- Where it calls itself, the state is longer than the room, and the longest tide has more room; all else is handed on.
use Rattle.std.proofs.Common.{◌≤◌, length, arith, rules}
use Rattle.run.proofs.Answers.{state_few}
use Rattle.run.proofs.+run_within.Goals as goal

pub run_within-requires : goal.run_within-requires
run_within-requires t c =
    let few : length c.args.state.now ≤ 49408 = state_few _ _ _ _ _ c.requires in
    (omega (arith, few), search rules)

pub run_on-requires-2 : goal.run_on-requires-2
run_on-requires-2 t c =
    let few : length c.args.state.now ≤ 49408 = state_few _ _ _ _ _ c.requires in
    search (rules, few)
