-- `velocities`: the part is cut behind the eastward faces; both passes fit exactly where all velocities do, and then fill both grids.
use Prim.Native.Nat.{suc, ◌+◌, ◌*◌, ◌≤◌}
use mathlib.Core.Path.{◌≡◌, ◌∙◌, sym}
use mathlib.Core.Bool.{or-false}
use native.Mathlib.Omega.{arith}
use borrow.Author.Rules.{rules}
use lib.ListN.{length}
use lib.Seq.{length-take-le}
use Rattle.rules.specs.Step.{new_velocities_fit}
use Rattle.laws.specs.Grids.{length-grid}
use Rattle.laws.specs.Parts.{two_parts, length_part}
use Rattle.laws.specs.Tested.{first_left, both_filled, filled_told}
use Rattle.layout.specs.Ways.{wide, high}
use Rattle.velocities.specs.Velocities.{new_speeds, next_velocities}
use Rattle.velocities.proofs.passes.velocities.Goals as goal

pub slice_bounds-pass-end-2 : goal.slice_bounds-pass-end-2
slice_bounds-pass-end-2 g c = sym (length-take-le _ _ (omega arith))

pub pass-requires : goal.pass-requires
unfolding wide high
pass-requires g c =
    let card = c.args.flow.now.card in
    let within : card.rows * (card.columns + 1) ≤ length c.args.part.now = omega arith in
    record { marked = c.requires.marked; long = length_part (card.rows * (card.columns + 1)) c.args.part.now within (omega arith) }

pub returns-else-pass : goal.returns-else-pass
unfolding new_velocities_fit new_speeds wide high
returns-else-pass g c = filled_told (first_left _ c.pass.ensures c.if-pass.false) c.if-pass.false

pub pass-requires-then-pass : goal.pass-requires-then-pass
unfolding wide high
pass-requires-then-pass g c = let p = c.requires in record { marked = p.marked; long = search rules }

pub returns-then-pass : goal.returns-then-pass
unfolding new_velocities_fit next_velocities new_speeds wide high
returns-then-pass g c =
    let card = c.args.flow.now.card in
    let long : card.rows * suc card.columns ≡ card.rows * (card.columns + 1) = omega arith in
    both_filled c.pass.ensures c.if-pass.true (filled_told c.pass-then-pass.ensures (search (or-false, rules)))
    (λ first last. two_parts _ _ first last (length-grid _ _ _ ∙ long))
