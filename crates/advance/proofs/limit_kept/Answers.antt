-- `limit_kept`: the marks have room for every row of a sound site.
use Rattle.advance.proofs.Answers.{marks_room}
use Rattle.advance.proofs.limit_kept.Goals as goal

pub mark-requires : goal.mark-requires
mark-requires c = marks_room c.requires c.no_marks-marks.ensures
