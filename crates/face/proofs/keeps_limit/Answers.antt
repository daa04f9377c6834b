-- `keeps_limit`: what each face counts, two sums, and products that fit.
use Prim.Native.Nat.{ℕ, ◌+◌, ◌*◌, ◌≤◌}
use mathlib.Core.Path.{◌≡◌, ◌∙◌}
use mathlib.Core.Bool.{Bool}
use native.Mathlib.Nat.{le_trans, le_of_eq, add-le-add, mul-le-mul}
use native.Mathlib.Omega.{arith}
use lib.IntN.{ℤ}
use mir.Syntax.{w32}
use mir.Val.{to_z, of_z}
use Rattle.rules.specs.Step.{forward, backward}
use Rattle.laws.specs.Exact.{int, value, within}
use Rattle.face.specs.Ranges.{Speed}
use Rattle.face.specs.Counts.{counts}
use Rattle.face.proofs.Counting.{counts_most, counts_backward, counts_not_forward, counts_forward, counts_not_backward}
use Rattle.face.proofs.keeps_limit.Goals as goal

-- a velocity, as it is read back from a local, loses nothing
same : {v : ℤ} → Speed v → to_z w32 (of_z w32 v) ≡ v
same fits = value (int {w = w32} fits tt)

-- and at most its speed, whatever was asked
most : {v : ℤ} → Speed v → (n : ℕ) (out : Bool) → n ≡ counts out (to_z w32 (of_z w32 v)) → n ≤ 20000000
most {v} fits n out e = le_trans (le_of_eq e) (le_trans (counts_most out (to_z w32 (of_z w32 v))) (within (int {w = w32} fits tt)).size)

-- what it returns
pub returns : goal.returns
returns c =
    let west : c.counted.result ≡ backward c.args.west = c.counted.ensures ∙ rw (same c.requires.west) (search (counts_backward, counts_not_forward)) in
    let east : c.counted-2.result ≡ forward c.args.east = c.counted-2.ensures ∙ rw (same c.requires.east) (search (counts_forward, counts_not_backward)) in
    let south : c.counted-3.result ≡ backward c.args.south = c.counted-3.ensures ∙ rw (same c.requires.south) (search (counts_backward, counts_not_forward)) in
    let north : c.counted-4.result ≡ forward c.args.north = c.counted-4.ensures ∙ rw (same c.requires.north) (search (counts_forward, counts_not_backward)) in
    cc (west, east, south, north)

pub overflow_add-west_east : goal.overflow_add-west_east
overflow_add-west_east c =
    let west_east : c.counted.result + c.counted-2.result ≤ 40000000 = add-le-add (most c.requires.west _ _ c.counted.ensures) (most c.requires.east _ _ c.counted-2.ensures) in
    omega (arith, west_east)

pub overflow_add-south_north : goal.overflow_add-south_north
overflow_add-south_north c =
    let south_north : c.counted-3.result + c.counted-4.result ≤ 40000000 = add-le-add (most c.requires.south _ _ c.counted-3.ensures) (most c.requires.north _ _ c.counted-4.ensures) in
    omega (arith, south_north)

pub overflow_mul-result : goal.overflow_mul-result
overflow_mul-result c =
    let west_east : c.counted.result + c.counted-2.result ≤ 40000000 = add-le-add (most c.requires.west _ _ c.counted.ensures) (most c.requires.east _ _ c.counted-2.ensures) in
    let by_y : (c.counted.result + c.counted-2.result) * c.args.dy ≤ 40000000 * 20000000 = mul-le-mul west_east c.requires.side_y.high in
    omega (arith, by_y)

pub overflow_mul-result-2 : goal.overflow_mul-result-2
overflow_mul-result-2 c =
    let south_north : c.counted-3.result + c.counted-4.result ≤ 40000000 = add-le-add (most c.requires.south _ _ c.counted-3.ensures) (most c.requires.north _ _ c.counted-4.ensures) in
    let by_x : (c.counted-3.result + c.counted-4.result) * c.args.dx ≤ 40000000 * 20000000 = mul-le-mul south_north c.requires.side_x.high in
    omega (arith, by_x)

pub overflow_add-result : goal.overflow_add-result
overflow_add-result c =
    let west_east : c.counted.result + c.counted-2.result ≤ 40000000 = add-le-add (most c.requires.west _ _ c.counted.ensures) (most c.requires.east _ _ c.counted-2.ensures) in
    let south_north : c.counted-3.result + c.counted-4.result ≤ 40000000 = add-le-add (most c.requires.south _ _ c.counted-3.ensures) (most c.requires.north _ _ c.counted-4.ensures) in
    let by_y : (c.counted.result + c.counted-2.result) * c.args.dy ≤ 40000000 * 20000000 = mul-le-mul west_east c.requires.side_y.high in
    let by_x : (c.counted-3.result + c.counted-4.result) * c.args.dx ≤ 40000000 * 20000000 = mul-le-mul south_north c.requires.side_x.high in
    omega (arith, by_y, by_x)

pub overflow_mul-result-3 : goal.overflow_mul-result-3
overflow_mul-result-3 c =
    let west_east : c.counted.result + c.counted-2.result ≤ 40000000 = add-le-add (most c.requires.west _ _ c.counted.ensures) (most c.requires.east _ _ c.counted-2.ensures) in
    let south_north : c.counted-3.result + c.counted-4.result ≤ 40000000 = add-le-add (most c.requires.south _ _ c.counted-3.ensures) (most c.requires.north _ _ c.counted-4.ensures) in
    let by_y : (c.counted.result + c.counted-2.result) * c.args.dy ≤ 40000000 * 20000000 = mul-le-mul west_east c.requires.side_y.high in
    let by_x : (c.counted-3.result + c.counted-4.result) * c.args.dx ≤ 40000000 * 20000000 = mul-le-mul south_north c.requires.side_x.high in
    omega (arith, mul-le-mul c.requires.time.high (add-le-add by_y by_x))

pub overflow_mul-result-4 : goal.overflow_mul-result-4
overflow_mul-result-4 c = omega (arith, mul-le-mul c.requires.side_x.high c.requires.side_y.high)

pub overflow_mul-result-5 : goal.overflow_mul-result-5
overflow_mul-result-5 c = omega (arith, mul-le-mul c.requires.side_x.high c.requires.side_y.high)
