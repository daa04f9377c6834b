-- `pass`: every velocity so far fits and is stored in its place, and one that does not fit decides for all.
use Rattle.rules.specs.Site.{speed_fits}
use Rattle.laws.specs.Engines.{engine}
use Rattle.laws.specs.Tested.{RowsTested, CellsTested}
use Rattle.velocities.specs.Velocities.{new_speeds}
use Rattle.velocities.proofs.passes.pass.Given as goal

abbrev pub invariant-loop-i : goal.invariant-loop-i
invariant-loop-i g l = CellsTested l.wide (new_speeds (engine g.E.Engine.TEXTBOOK) l.flow.card l.flow.land.now l.flow.state.now l.way) speed_fits l.high l.j l.initial.part l.part l.i

abbrev pub invariant-loop-j : goal.invariant-loop-j
invariant-loop-j g l = RowsTested l.wide (new_speeds (engine g.E.Engine.TEXTBOOK) l.flow.card l.flow.land.now l.flow.state.now l.way) speed_fits l.high l.initial.part l.part l.j
