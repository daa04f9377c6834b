use mathlib.Core.Path.{◌≡◌, ◌∙◌, sym, ap₂}
use Prim.Native.Nat.{ℕ, ◌*◌}
use native.Mathlib.Nat.{le_of_eq}
use native.Mathlib.Omega.{arith}
use lib.ListN.{length}
use mir.Val.{to_z}
use mir.Syntax.{w32}
use Rattle.rules.specs.Grid.{grid}
use Rattle.rules.specs.Site.{read_state}
use Rattle.laws.specs.Signed.{word_is}
use Rattle.laws.specs.Passes.{begin, begin_row, place, more, more_rows, done}
use Rattle.layout.specs.Ways.{transfers}
use Rattle.layout.specs.Places.{FaceIn}
use Rattle.still.proofs.Rows.{row_at, near_row, both_rows}
use Rattle.transfers.proofs.Crossings.{over_still}
use Rattle.transfers.proofs.over_faces.Goals as goal
use Rattle.transfers.proofs.over_faces.Goals.{then-still, else-still}

pub loop-j-init : goal.loop-j-init
loop-j-init c =
    let long : length c.args.part.now ≡ c.high-high.result * c.wide-wide.result = c.requires.long ∙ sym (ap₂ ◌*◌ c.high-high.ensures c.wide-wide.ensures) in
    begin (le_of_eq (sym long))

pub both_still-still-requires : goal.both_still-still-requires
both_still-still-requires c = record { room = c.requires.marked.room; row = rw c.high-high.ensures at c.loop-j-test.true }

pub loop-i-init : goal.loop-i-init
loop-i-init c = begin_row c.loop-j.invariant

pub over_face-crossed-requires : goal.over_face-crossed-requires
over_face-crossed-requires c =
    let face : let a = c.args in FaceIn a.card a.way c.loop-i.i c.loop-j.j = record { column = omega (arith, c.wide-wide.ensures); row = omega (arith, c.high-high.ensures) } in
    record { limited = c.requires.limited; face = face }

pub put-requires : goal.put-requires
put-requires c = place c.loop-i.invariant c.loop-j-test.true c.loop-i-test.true

pub loop-i-preserved : goal.loop-i-preserved
loop-i-preserved c =
    let a = c.args in
    let here : FaceIn a.card a.way c.loop-i.i c.loop-j.j = record { column = omega (arith, c.wide-wide.ensures); row = omega (arith, c.high-high.ensures) } in
    let crossed_is : to_z w32 c.if-still.crossed-bits ≡ transfers a.card (read_state a.card a.state.now) a.way c.loop-i.i c.loop-j.j =
    elim c.if-still.branch [
      | then-still w ↦ w.crossed-is ∙ sym (over_still _ _ _ _ _ (row_at _ _ _ _ _ here.column (near_row (both_rows c.requires.marked _ here.row (sym c.both_still-still.ensures ∙ w.if-still.true)).row_l _)))
      | else-still w ↦ let over = w.over_face-crossed in w.crossed-is ∙ word_is over.result over.type_inv over.ensures
    ] in
    more c.loop-i.invariant c.loop-j-test.true c.loop-i-test.true c.put.ensures crossed_is

pub loop-j-preserved : goal.loop-j-preserved
loop-j-preserved c = more_rows c.loop-j.invariant c.loop-i.invariant c.loop-j-test.true c.loop-i-test.false

pub returns : goal.returns
returns c =
    let long : length c.args.part.now ≡ c.high-high.result * c.wide-wide.result = c.requires.long ∙ sym (ap₂ ◌*◌ c.high-high.ensures c.wide-wide.ensures) in
    let a = c.args in
    done c.loop-j.invariant c.loop-j-test.false long
    ∙ ap₂ (λ (m n : ℕ). grid m n (transfers a.card (read_state a.card a.state.now) a.way)) c.wide-wide.ensures c.high-high.ensures
