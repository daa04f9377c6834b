-- `decide`: the refusal of what was looked at.
use mathlib.Core.Path.{◌≡◌, sym}
use native.Mathlib.Omega.{arith}
use Rattle.std.proofs.Common.{rules, Err}
use Rattle.raster_laws.specs.Looks.{size_signed}
use Rattle.raster_laws.specs.Decisions.{number_is, passed, side_small, decided}
use Rattle.raster_look.proofs.decisions.decide.Goals as goal

pub returns-in_err-check : goal.returns-in_err-check
returns-in_err-check c =
    let same : c.from_residual.result ≡ Err c.in_err-check.field-0.0 = search rules in
    rw same (number_is c.in-Some.ensures c.in-Some-look_over.ensures c.args.n c.sizes_fit-sizes.ensures c.is_product-counts.ensures c.in_err-check.ensures)

pub overflow_cast-survey : goal.overflow_cast-survey
overflow_cast-survey c =
    let h = c.in-Some.ensures in
    let l = c.in-Some-look_over.ensures in
    let z = sym (number_is h l c.args.n c.sizes_fit-sizes.ensures c.is_product-counts.ensures c.in_ok-check.ensures) in
    omega (arith, (passed h l c.args.n z).wide)

pub overflow_cast-survey-2 : goal.overflow_cast-survey-2
overflow_cast-survey-2 c =
    let h = c.in-Some.ensures in
    let l = c.in-Some-look_over.ensures in
    let z = sym (number_is h l c.args.n c.sizes_fit-sizes.ensures c.is_product-counts.ensures c.in_ok-check.ensures) in
    omega (arith, (passed h l c.args.n z).high)

pub overflow_cast-survey-3 : goal.overflow_cast-survey-3
overflow_cast-survey-3 c =
    let h = c.in-Some.ensures in
    let l = c.in-Some-look_over.ensures in
    let z = sym (number_is h l c.args.n c.sizes_fit-sizes.ensures c.is_product-counts.ensures c.in_ok-check.ensures) in
    omega (arith, side_small h l c.args.n z, size_signed c.in-Some.head.side.minus c.in-Some.head.side.size)

pub returns : goal.returns
returns c =
    let h = c.in-Some.ensures in
    let l = c.in-Some-look_over.ensures in
    let z = sym (number_is h l c.args.n c.sizes_fit-sizes.ensures c.is_product-counts.ensures c.in_ok-check.ensures) in
    decided h l c.args.n z (sym (size_signed c.in-Some.head.side.minus c.in-Some.head.side.size))
