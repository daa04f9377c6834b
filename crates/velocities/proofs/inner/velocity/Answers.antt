-- `inner::velocity`: a still row's face has the new velocity of its levels; any other is 0 by its levels, or has the rise that they give and what is carried
-- around it.
use mathlib.Core.Path.{◌≡◌, ◌∙◌, sym}
use mathlib.Core.Bool.{false}
use borrow.Author.Rules.{rules}
use mir.Syntax.{w64}
use mir.Val.{to_z, of_z}
use mir.Facts.{to_z-of_z}
use Rattle.rules.specs.Site.{is_zero}
use Rattle.rules.specs.Step.{new_sum, dry_bank}
use Rattle.laws.specs.Tests.{true_of, and_right, to_T}
use Rattle.laws.specs.Engines.{rise_of}
use Rattle.around.proofs.Ranges.{still_place, old_place}
use Rattle.around.proofs.Still.{still_velocity}
use Rattle.velocities.proofs.Gathered.{levels_fit, in_still, dry_is, bank_is, wet_levels, in_velocity, moved_is}
use Rattle.velocities.proofs.inner.velocity.Goals as goal

-- what it returns: in a still row, without water, on a dry bank, and elsewhere
pub returns-then-still : goal.returns-then-still
returns-then-still g c =
    let p = c.requires in
    to_z-of_z {w = w64} (record { sfits = c.still_velocity.type_inv })
    ∙ c.still_velocity.ensures
    ∙ rw (c.still_face-levels.ensures, c.side.ensures, p.first_engine c.if-still.true)
    (still_velocity c.args.flow.now.flowing p.at_face (p.row_k c.if-still.true) (p.row_l c.if-still.true) _ _)

pub returns-then-no_water : goal.returns-then-no_water
returns-then-no_water g c = dry_is c.args.flow.now.flowing c.requires.at_face c.still_face-levels.ensures g.E.Engine.TEXTBOOK _ (sym c.no_water.ensures ∙ c.if-no_water.true)

pub returns-then-dry_bank : goal.returns-then-dry_bank
returns-then-dry_bank g c = bank_is c.args.flow.now.flowing c.requires.at_face c.still_face-levels.ensures g.E.Engine.TEXTBOOK _ (sym c.dry_bank.ensures ∙ search (true_of, and_right, to_T, rules))

pub returns : goal.returns
returns g c =
    let wet : is_zero (new_sum c.still_face-levels.result) ≡ false = sym c.no_water.ensures ∙ c.if-no_water.false in
    let no_bank : dry_bank c.still_face-levels.result ≡ false = sym c.dry_bank.ensures ∙ search rules in
    let rise : to_z w64 (of_z w64 c.rise-rise.result) ≡ rise_of g.E.Engine.TEXTBOOK c.still_face-levels.result = to_z-of_z {w = w64} (record { sfits = c.rise-rise.type_inv }) ∙ c.rise-rise.ensures in
    to_z-of_z {w = w64} (record { sfits = c.new_velocity.type_inv })
    ∙ c.new_velocity.ensures
    ∙ moved_is c.args.flow.now.flowing c.requires.at_face c.still_face-levels.ensures wet g.E.Engine.TEXTBOOK rise c.face.ensures c.side-2.ensures no_bank

-- what each call requires
pub still_face-levels-requires : goal.still_face-levels-requires
still_face-levels-requires g c = search (still_place c.args.flow.now.flowing c.requires.at_face, old_place c.args.flow.now.flowing c.requires.at_face)

pub still_velocity-requires : goal.still_velocity-requires
still_velocity-requires g c = in_still c.args.flow.now.flowing c.requires.at_face c.still_face-levels.ensures c.side.ensures

pub no_water-requires : goal.no_water-requires
no_water-requires g c = levels_fit c.args.flow.now.flowing c.requires.at_face c.still_face-levels.ensures

pub dry_bank-requires : goal.dry_bank-requires
dry_bank-requires g c = levels_fit c.args.flow.now.flowing c.requires.at_face c.still_face-levels.ensures

pub rise-rise-requires : goal.rise-rise-requires
rise-rise-requires g c =
    let wet : is_zero (new_sum c.still_face-levels.result) ≡ false = sym c.no_water.ensures ∙ c.if-no_water.false in
    wet_levels c.args.flow.now.flowing c.requires.at_face c.still_face-levels.ensures wet

pub face-requires : goal.face-requires
face-requires g c = c.requires.at_face

pub new_velocity-requires : goal.new_velocity-requires
new_velocity-requires g c =
    let wet : is_zero (new_sum c.still_face-levels.result) ≡ false = sym c.no_water.ensures ∙ c.if-no_water.false in
    let rise : to_z w64 (of_z w64 c.rise-rise.result) ≡ rise_of g.E.Engine.TEXTBOOK c.still_face-levels.result = to_z-of_z {w = w64} (record { sfits = c.rise-rise.type_inv }) ∙ c.rise-rise.ensures in
    in_velocity c.args.flow.now.flowing c.requires.at_face c.still_face-levels.ensures wet g.E.Engine.TEXTBOOK rise c.face.ensures c.side-2.ensures
