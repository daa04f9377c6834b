-- `advance`: the marks have room for every row of a sound site.
use Rattle.advance.proofs.Answers.{sound, marks_room}
use Rattle.advance.proofs.advance.Goals as goal

pub mark-requires : goal.mark-requires
mark-requires g c = marks_room (sound c.requires) c.no_marks-marks.ensures
