-- `run`: a check that fails is the reason and leaves both lists as lent; where all pass, the site is sound.
use Rattle.std.proofs.Common.{rules, sym}
use Rattle.laws.specs.PumpChecks.{checked_with}
use Rattle.run.proofs.Answers.{refused}
use Rattle.run.proofs.run.Goals as goal

pub returns-in-Err : goal.returns-in-Err
returns-in-Err c = refused _ _ _ _ _ c.in-Err.refusal c.in-Err.ensures _ c.from.ensures

pub run_within-requires : goal.run_within-requires
run_within-requires c = checked_with _ _ _ _ _ (search (rules, sym))
