-- `read_raster`: what is decided says what is left.
use mathlib.Core.Path.{◌≡◌}
use Rattle.std.proofs.Common.{rules, Err}
use Rattle.laws.specs.Refusing.{number-ne0}
use Rattle.raster_laws.specs.Decisions.{answered_done, answered_refused}
use Rattle.raster_reader.proofs.reader.read_raster.Goals as goal

pub returns-in_err-found : goal.returns-in_err-found
returns-in_err-found c =
    let refusal = c.in_err-found.field-0.0 in
    let same : c.from_residual.result ≡ Err refusal = search rules in
    rw same (answered_refused c.args.text.now c.args.land.now c.in_err-found.ensures (number-ne0 refusal))

pub fill-requires : goal.fill-requires
fill-requires c = c.in_ok-found.ensures.passes

pub returns : goal.returns
returns c = answered_done c.args.text.now c.args.land.now c.in_ok-found.ensures c.fill.ensures
