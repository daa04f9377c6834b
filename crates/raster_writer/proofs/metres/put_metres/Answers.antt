-- `put_metres`: the whole metres, a point and six digits.
use mathlib.Core.Path.{refl, sym}
use native.Mathlib.Omega.{arith}
use Rattle.print.proofs.Laws.{appended_more, appended_same, appended_length}
use Rattle.raster_writer.proofs.Laws.{metres_apart, length-metres}
use Rattle.raster_writer.proofs.metres.put_metres.Goals as goal

pub put_whole-point-requires : goal.put_whole-point-requires
put_whole-point-requires c = (omega (arith, c.requires.0), omega (arith, c.requires.1, length-metres c.args.n))

pub put_places-requires : goal.put_places-requires
put_places-requires c = let p = c.put_whole-point.ensures in let long = c.requires.1 in let all = length-metres c.args.n in omega (arith, p.stop, long, all, appended_length p (omega (arith, p.stop, long, all)))

pub overflow_add-result : goal.overflow_add-result
overflow_add-result c = let p = c.put_whole-point.ensures in let long = c.requires.1 in let all = length-metres c.args.n in omega (arith, p.stop, long, all)

pub returns : goal.returns
returns c = let p = c.put_whole-point.ensures in let long = c.requires.1 in let all = length-metres c.args.n in appended_same (sym (metres_apart c.args.n)) (appended_more p (record { stop = refl; bytes = c.put_places.ensures }) (omega (arith, p.stop, long, all)))
