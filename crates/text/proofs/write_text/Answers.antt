-- `write_text`: a negative height has no text, and any other is its own size, whose text is put.
use Rattle.std.proofs.Common.{sym, ap, ◌∙◌}
use Rattle.rules.specs.Text.{height_text}
use Rattle.put.proofs.Laws.{put_same, put_nil}
use Rattle.text.proofs.Laws.{put_told, signed_none, signed_text}
use Rattle.text.proofs.write_text.Goals as goal

pub returns-in-Ok-clause-length : goal.returns-in-Ok-clause-length
returns-in-Ok-clause-length c =
    let e = c.in-Ok.ensures in
    (put_told _ (put_same (ap height_text e.1 ∙ signed_text c.args.height c.ranges.height e.0) c.put_height.ensures)).0

pub returns-in-Ok-clause-scratch : goal.returns-in-Ok-clause-scratch
returns-in-Ok-clause-scratch c =
    let e = c.in-Ok.ensures in
    (put_told _ (put_same (ap height_text e.1 ∙ signed_text c.args.height c.ranges.height e.0) c.put_height.ensures)).1

pub returns-in-Err-clause-length : goal.returns-in-Err-clause-length
returns-in-Err-clause-length c = (put_told _ (put_same (sym (signed_none c.args.height c.ranges.height c.in-Err.ensures)) (put_nil _))).0

pub returns-in-Err-clause-scratch : goal.returns-in-Err-clause-scratch
returns-in-Err-clause-scratch c = (put_told _ (put_same (sym (signed_none c.args.height c.ranges.height c.in-Err.ensures)) (put_nil _))).1
