-- `pumped_advance`: the pumps act; where an inlet passes the top all is as it was, where the step is refused the pumps are undone, and else the step is made.
use Rattle.std.proofs.Common.{rules, ◌∙◌, refl, sym, ap}
use Rattle.pumped.proofs.Answers.{pumpable, still_sound, refused_inlet, step_room, undoable, refused_step, moved}
use Rattle.pumped.proofs.pumped_advance.Goals as goal

pub pump-requires : goal.pump-requires
pump-requires g c = pumpable c.requires

pub over_the_top-requires : goal.over_the_top-requires
over_the_top-requires g c = still_sound c.requires (search rules)

pub returns-in_default : goal.returns-in_default
returns-in_default g c = refused_inlet c.requires (search rules) c.over_the_top.ensures

pub advance-requires : goal.advance-requires
advance-requires g c = step_room c.requires c.in-Some.ensures

pub undo-requires : goal.undo-requires
undo-requires g c = undoable c.requires c.in-Some.ensures (search rules)

pub returns-in-Err : goal.returns-in-Err
returns-in-Err g c = refused_step c.requires c.in-Some.ensures c.advance.ensures (search rules) (c.undo.ensures ∙ c.in-Some.ensures.undone)

pub returns : goal.returns
returns g c = moved c.requires c.in-Some.ensures c.advance.ensures (search rules)
