-- `transfer`: an empty upwind cell sends nothing; else no product wraps, and for a height of 0 or more the quotient towards zero is the floor of the size,
-- with u's sign.
use mathlib.Core.Path.{◌≡◌, ◌∙◌}
use mathlib.Core.Bool.{cond}
use native.Mathlib.Omega.{arith}
use lib.IntN.{pos}
use lib.Signed.{lt_z}
use mir.Facts.{to_z-of_z}
use mir.Syntax.{w32, w64}
use Rattle.laws.specs.Exact.{Node, fits, value, divides, is_zero_lem, int, nat, lit, result, mul, quot, cast}
use Rattle.face.proofs.Bounds.{height_within, either_within}
use Rattle.face.proofs.Laws.{transfer-quot, transfer_none}
use Rattle.face.proofs.transfer.Goals as goal

-- what it returns; then that each operation fits
pub returns-then-h-eq0 : goal.returns-then-h-eq0
returns-then-h-eq0 c =
    let came : let i = c.args in c.upwind-h.result ≡ cond (lt_z i.u (pos 0)) i.hl i.hk = c.upwind-h.ensures ∙ rw (to_z-of_z c.ranges.u, to_z-of_z c.ranges.hl, to_z-of_z c.ranges.hk) in
    let upwind : Node w32 = result came (either_within (lt_z c.args.u (pos 0)) (height_within c.requires.height_l) (height_within c.requires.height_k)) tt in
    transfer_none _ _ _ _ _ c.requires.height_k.low c.requires.height_l.low (is_zero_lem upwind c.if-h-eq0.true)

pub returns : goal.returns
returns c =
    let came : let i = c.args in c.upwind-h.result ≡ cond (lt_z i.u (pos 0)) i.hl i.hk = c.upwind-h.ensures ∙ rw (to_z-of_z c.ranges.u, to_z-of_z c.ranges.hl, to_z-of_z c.ranges.hk) in
    let upwind : Node w32 = result came (either_within (lt_z c.args.u (pos 0)) (height_within c.requires.height_l) (height_within c.requires.height_k)) tt in
    let h : Node w64 = cast upwind tt in
    let u : Node w64 = cast (int c.requires.speed tt) tt in
    let hu : Node w64 = mul h u tt in
    let dt : Node w64 = nat c.requires.time.high tt in
    let top : Node w64 = mul hu dt tt in
    let d : Node w64 = nat c.requires.side.high tt in
    let below : Node w64 = mul (lit 1000 tt) d tt in
    value (quot top below) ∙ transfer-quot _ _ _ _ _ c.requires.height_k.low c.requires.height_l.low

pub overflow_cast-top : goal.overflow_cast-top
overflow_cast-top c =
    let came : let i = c.args in c.upwind-h.result ≡ cond (lt_z i.u (pos 0)) i.hl i.hk = c.upwind-h.ensures ∙ rw (to_z-of_z c.ranges.u, to_z-of_z c.ranges.hl, to_z-of_z c.ranges.hk) in
    let upwind : Node w32 = result came (either_within (lt_z c.args.u (pos 0)) (height_within c.requires.height_l) (height_within c.requires.height_k)) tt in
    let h : Node w64 = cast upwind tt in
    fits h

pub overflow_cast-top-2 : goal.overflow_cast-top-2
overflow_cast-top-2 c =
    let u : Node w64 = cast (int c.requires.speed tt) tt in
    fits u

pub overflow_mul-top : goal.overflow_mul-top
overflow_mul-top c =
    let came : let i = c.args in c.upwind-h.result ≡ cond (lt_z i.u (pos 0)) i.hl i.hk = c.upwind-h.ensures ∙ rw (to_z-of_z c.ranges.u, to_z-of_z c.ranges.hl, to_z-of_z c.ranges.hk) in
    let upwind : Node w32 = result came (either_within (lt_z c.args.u (pos 0)) (height_within c.requires.height_l) (height_within c.requires.height_k)) tt in
    let h : Node w64 = cast upwind tt in
    let u : Node w64 = cast (int c.requires.speed tt) tt in
    let hu : Node w64 = mul h u tt in
    fits hu

pub overflow_cast-top-3 : goal.overflow_cast-top-3
overflow_cast-top-3 c =
    let dt : Node w64 = nat c.requires.time.high tt in
    fits dt

pub overflow_mul-top-2 : goal.overflow_mul-top-2
overflow_mul-top-2 c =
    let came : let i = c.args in c.upwind-h.result ≡ cond (lt_z i.u (pos 0)) i.hl i.hk = c.upwind-h.ensures ∙ rw (to_z-of_z c.ranges.u, to_z-of_z c.ranges.hl, to_z-of_z c.ranges.hk) in
    let upwind : Node w32 = result came (either_within (lt_z c.args.u (pos 0)) (height_within c.requires.height_l) (height_within c.requires.height_k)) tt in
    let h : Node w64 = cast upwind tt in
    let u : Node w64 = cast (int c.requires.speed tt) tt in
    let hu : Node w64 = mul h u tt in
    let dt : Node w64 = nat c.requires.time.high tt in
    let top : Node w64 = mul hu dt tt in
    fits top

pub overflow_cast-below : goal.overflow_cast-below
overflow_cast-below c =
    let d : Node w64 = nat c.requires.side.high tt in
    fits d

pub overflow_mul-below : goal.overflow_mul-below
overflow_mul-below c =
    let d : Node w64 = nat c.requires.side.high tt in
    let below : Node w64 = mul (lit 1000 tt) d tt in
    fits below

pub nonzero_div-result : goal.nonzero_div-result
nonzero_div-result c =
    let came : let i = c.args in c.upwind-h.result ≡ cond (lt_z i.u (pos 0)) i.hl i.hk = c.upwind-h.ensures ∙ rw (to_z-of_z c.ranges.u, to_z-of_z c.ranges.hl, to_z-of_z c.ranges.hk) in
    let upwind : Node w32 = result came (either_within (lt_z c.args.u (pos 0)) (height_within c.requires.height_l) (height_within c.requires.height_k)) tt in
    let h : Node w64 = cast upwind tt in
    let u : Node w64 = cast (int c.requires.speed tt) tt in
    let hu : Node w64 = mul h u tt in
    let dt : Node w64 = nat c.requires.time.high tt in
    let top : Node w64 = mul hu dt tt in
    let d : Node w64 = nat c.requires.side.high tt in
    let below : Node w64 = mul (lit 1000 tt) d tt in
    divides top below (omega (arith, c.requires.side.low))
