-- `steps`: the start, a refused step, a step that is done, and the end, each by its law of the loop (Loop.antt).
use Rattle.std.proofs.Common.{◌∙◌, arith, rules}
use Rattle.std.proofs.lemmas.Grind.{common_steps}
use mir.Facts.{to_z-of_z}
use mir.Syntax.{w32}
use Rattle.steps.proofs.Loop.{cells_held, peak_is, begins, stops, room_for, goes_on, ends}
use Rattle.steps.proofs.steps.Goals as goal

pub greatest-requires : goal.greatest-requires
greatest-requires c = omega (arith, c.cells-cells.ensures.0, cells_held _ _ _ c.requires.sound)

pub loop-init : goal.loop-init
loop-init c = let p = c.requires in (
  begins _ _ _ _ _ p.sound (to_z-of_z {w = w32} (record { sfits = c.greatest.type_inv }) ∙ peak_is _ _ _ c.cells-cells.ensures.0 c.greatest.ensures),
  p.scratch_long,
  p.tide_long,
  search rules,
)

pub returns-in-Err : goal.returns-in-Err
returns-in-Err c = stops c.requires.pass c.loop.invariant.0 c.loop-test.true c.in-Err.ensures _ c.from.ensures _ (search rules)

pub greatest-requires-in-loop : goal.greatest-requires-in-loop
greatest-requires-in-loop c =
    let i = c.loop.invariant in
    omega (arith, c.cells-cells.ensures.0, cells_held _ _ _ i.0.sound, i.0.long)

pub accept-tally-requires : goal.accept-tally-requires
accept-tally-requires c = room_for c.loop.invariant.0 c.loop-test.true _ _ c.in-Ok.ensures.few_added c.in-Ok.ensures.few_taken

pub loop-preserved : goal.loop-preserved
loop-preserved c =
    let top = c.greatest-in-loop in
    let i = c.loop.invariant in (
      goes_on c.requires.pass i.0 c.loop-test.true c.in-Ok.ensures (grind (arith, common_steps)) _ (to_z-of_z {w = w32} (record { sfits = top.type_inv }) ∙ peak_is _ _ _ c.cells-cells.ensures.0 top.ensures) _ c.accept-tally.ensures,
      c.pumped_advance-moved.auto.next ∙ i.1,
      c.pumped_advance-moved.auto.tide ∙ i.2,
      c.pumped_advance-moved.auto.found ∙ i.3,
    )

pub returns : goal.returns
returns c = ends c.requires.pass c.loop.invariant.0 c.loop-test.false
