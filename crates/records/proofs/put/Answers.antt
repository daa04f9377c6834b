-- `put`: both places lie in the array.
use borrow.Author.Rules.{rules}
use mathlib.Core.Path.{◌≡◌}
use mir.Syntax.{w64}
use mir.Val.{to_z, of_z}
use Rattle.records.specs.Row.{put_at}
use Rattle.records.proofs.put.Goals as goal

pub returns : goal.returns
unfolding put_at
returns c =
    let a = c.args in
    let x_is : to_z w64 (of_z w64 a.chamber.x) ≡ a.chamber.x = search rules in
    let y_is : to_z w64 (of_z w64 a.chamber.y) ≡ a.chamber.y = search rules in
    simp (x_is, y_is)
