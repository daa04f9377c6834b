-- `advance_marked`: the look at the limit decides on 4, and else gives what the flow needs.
use Rattle.advance.proofs.Answers.{marked_state, limit_broken, limited}
use Rattle.advance.proofs.advance_marked.Goals as goal

pub limit_kept-requires : goal.limit_kept-requires
limit_kept-requires g c = search marked_state

pub returns-then-not-limit_kept : goal.returns-then-not-limit_kept
returns-then-not-limit_kept g c = search limit_broken

pub flow-requires : goal.flow-requires
flow-requires g c = search limited
