-- `still_velocity`: without water, on a level surface and on a bank nothing pulls where nothing is carried; elsewhere the slope alone does.
use mathlib.Core.Path.{◌∙◌, sym}
use mir.Syntax.{w32, w64}
use Rattle.laws.specs.Velocity.{without_water, on_a_bank, slope_alone, nothing_pulls}
use Rattle.laws.specs.Exact.{Node, fits, value, is_zero_lem, says_zero, says_other, lit, result, sub, cast}
use Rattle.velocity.proofs.Bounds.{sum-within, rise-within}
use Rattle.velocity.proofs.Slopes.{in_slope, sloped}
use Rattle.velocity.proofs.still_velocity.Goals as goal

pub returns-then-new_sum-eq0 : goal.returns-then-new_sum-eq0
returns-then-new_sum-eq0 c =
    let h : Node w32 = result c.new_sum.ensures (sum-within c.requires.face) tt in
    sym (without_water _ _ _ _ (says_zero h c.if-new_sum-eq0.true))

pub returns-then-rise-eq0 : goal.returns-then-rise-eq0
returns-then-rise-eq0 c =
    let risen : Node w32 = result c.rise-rise.ensures (rise-within c.requires.face) tt in
    sym (nothing_pulls _ _ _ _ c.requires.nothing (is_zero_lem risen c.if-rise-eq0.true))

pub returns-then-dry_bank : goal.returns-then-dry_bank
returns-then-dry_bank c = sym (on_a_bank _ _ _ _ (sym c.dry_bank.ensures ∙ c.if-dry_bank.true))

pub returns : goal.returns
returns c =
    let h : Node w32 = result c.new_sum.ensures (sum-within c.requires.face) tt in
    let risen : Node w32 = result c.rise-rise.ensures (rise-within c.requires.face) tt in
    let pulled : Node w64 = let p = c.requires in
    sloped (cast risen tt) (rise-within p.face) p.time p.side c.slope.ensures in
    let new : Node w64 = sub (lit 0 tt) pulled tt in
    value new
    ∙ sym (slope_alone _ _ _ _ c.requires.nothing (says_other h c.if-new_sum-eq0.false) (sym c.dry_bank.ensures ∙ c.if-dry_bank.false))

pub overflow_cast-rise : goal.overflow_cast-rise
overflow_cast-rise c =
    let risen : Node w32 = result c.rise-rise.ensures (rise-within c.requires.face) tt in
    fits (cast risen tt)

pub slope-requires : goal.slope-requires
slope-requires c =
    let risen : Node w32 = result c.rise-rise.ensures (rise-within c.requires.face) tt in
    let p = c.requires in
    in_slope (cast risen tt) (rise-within p.face) p.time p.side

pub overflow_sub-result : goal.overflow_sub-result
overflow_sub-result c =
    let risen : Node w32 = result c.rise-rise.ensures (rise-within c.requires.face) tt in
    let pulled : Node w64 = let p = c.requires in
    sloped (cast risen tt) (rise-within p.face) p.time p.side c.slope.ensures in
    let new : Node w64 = sub (lit 0 tt) pulled tt in
    fits new
