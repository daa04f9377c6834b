-- `passes::velocity`: 0 on a wall; any other face has a cell behind it.
use mir.Syntax.{w64}
use mathlib.Core.Path.{◌≡◌, ◌∙◌, sym}
use mathlib.Core.Bool.{false}
use mir.Facts.{to_z-of_z}
use Rattle.layout.specs.Ways.{is_wall}
use Rattle.layout.proofs.Pointing.{beside}
use Rattle.velocities.proofs.Velocities.{new_is, on_inner, inner_is}
use Rattle.velocities.proofs.passes.velocity.Goals as goal

pub returns-then-is_wall : goal.returns-then-is_wall
returns-then-is_wall g c = sym (new_is _ _ _ _ _ c.requires.face ∙ rw (sym c.is_wall.ensures ∙ c.if-is_wall.true))

pub returns : goal.returns
returns g c =
    let no_wall : let a = c.args in is_wall a.flow.now.card a.way a.i a.j ≡ false = sym c.is_wall.ensures ∙ c.if-is_wall.false in
    to_z-of_z {w = w64} (record { sfits = c.velocity.type_inv })
    ∙ c.velocity.ensures
    ∙ inner_is c.requires no_wall c.back_column-k.ensures c.back_row-l.ensures _ _

pub back_column-k-requires : goal.back_column-k-requires
back_column-k-requires g c =
    let no_wall : let a = c.args in is_wall a.flow.now.card a.way a.i a.j ≡ false = sym c.is_wall.ensures ∙ c.if-is_wall.false in
    (beside _ _ _ _ c.requires.face no_wall).back_east

pub back_row-l-requires : goal.back_row-l-requires
back_row-l-requires g c =
    let no_wall : let a = c.args in is_wall a.flow.now.card a.way a.i a.j ≡ false = sym c.is_wall.ensures ∙ c.if-is_wall.false in
    (beside _ _ _ _ c.requires.face no_wall).back_north

pub velocity-requires : goal.velocity-requires
velocity-requires g c =
    let no_wall : let a = c.args in is_wall a.flow.now.card a.way a.i a.j ≡ false = sym c.is_wall.ensures ∙ c.if-is_wall.false in
    on_inner c.requires no_wall c.back_column-k.ensures c.back_row-l.ensures
