-- `water_depth_text`: all is handed on, and the height reaches the writer as it was.
use mir.Facts.{to_z-of_z}
use Rattle.water.proofs.water_depth_text.Goals as goal

pub returns : goal.returns
returns c =
    let back = to_z-of_z c.ranges.height in
    let e = simp back at c.write_text.ensures in
    record { answer = e.length; scratch_exit = e.scratch }
