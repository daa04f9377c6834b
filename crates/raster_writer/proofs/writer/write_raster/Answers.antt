-- `write_raster`: the checks, the room, and then the text.
use mathlib.Core.Path.{◌≡◌, sym, ap, ◌∙◌}
use native.Mathlib.Omega.{arith}
use lib.ListN.{length}
use native.Mathlib.Nat.{suc-ne-zero}
use Rattle.std.proofs.Common.{rules, Err}
use Rattle.laws.specs.Refusing.{number-ne0}
use Rattle.print.proofs.Laws.{appended_more, appended_same, appended_length, front_part, front_length}
use Rattle.raster_writer.proofs.Numbers.{checked, text_is, text_long, by_checks, no_room, refused, done}
use Rattle.raster_writer.proofs.writer.write_raster.Goals as goal

pub returns-in_err-check : goal.returns-in_err-check
returns-in_err-check c =
    let s = c.args in
    let refusal = c.in_err-check.field-0.0 in
    let e = c.in_err-check.ensures in
    let same : c.from_residual.result ≡ Err refusal = search rules in
    rw same (refused s.card s.land.now s.text.now (e ∙ by_checks s.card s.land.now s.text.now (λ z. number-ne0 refusal (e ∙ z))) (number-ne0 refusal))

pub key_lines-keys-requires : goal.key_lines-keys-requires
key_lines-keys-requires c = ((checked c.args.card c.args.land.now (sym c.in_ok-check.ensures)).card, omega arith)

pub values_size-requires : goal.values_size-requires
values_size-requires c = (checked c.args.card c.args.land.now (sym c.in_ok-check.ensures))

pub returns-then-text-size : goal.returns-then-text-size
returns-then-text-size c = let k = c.key_lines-keys.ensures in let head = front_part k.text in let keys = k.text.stop in let most = k.end in let long = text_long c.args.card c.args.land.now in let v = c.values_size.ensures in let s = c.args in refused s.card s.land.now s.text.now (no_room s.card s.land.now s.text.now (sym c.in_ok-check.ensures) (omega (arith, long, keys, v.0, c.if-text-size.true))) (suc-ne-zero 7)

pub slice_bounds-append-end : goal.slice_bounds-append-end
slice_bounds-append-end c = front_length c.key_lines-keys.ensures.text

pub append-at-requires : goal.append-at-requires
append-at-requires c = let k = c.key_lines-keys.ensures in let head = front_part k.text in let keys = k.text.stop in let most = k.end in let long = text_long c.args.card c.args.land.now in let v = c.values_size.ensures in omega (arith, ap length head, keys, v.0, c.if-text-size.false)

pub put_values-end-requires : goal.put_values-end-requires
put_values-end-requires c = let k = c.key_lines-keys.ensures in let head = front_part k.text in let keys = k.text.stop in let most = k.end in let long = text_long c.args.card c.args.land.now in let v = c.values_size.ensures in let room = c.if-text-size.false in let p = appended_same head c.append-at.ensures in ((checked c.args.card c.args.land.now (sym c.in_ok-check.ensures)), omega (arith, p.stop, keys, v.0, room, appended_length p (omega (arith, p.stop, keys, v.0, room))))

pub overflow_cast-result : goal.overflow_cast-result
overflow_cast-result c = let k = c.key_lines-keys.ensures in let head = front_part k.text in let keys = k.text.stop in let most = k.end in let long = text_long c.args.card c.args.land.now in let v = c.values_size.ensures in let room = c.if-text-size.false in let p = appended_same head c.append-at.ensures in omega (arith, p.stop, keys, most, v.0, v.1, c.put_values-end.ensures.stop)

pub returns : goal.returns
returns c = let k = c.key_lines-keys.ensures in let head = front_part k.text in let keys = k.text.stop in let most = k.end in let long = text_long c.args.card c.args.land.now in let v = c.values_size.ensures in let room = c.if-text-size.false in let p = appended_same head c.append-at.ensures in let s = c.args in done s.card s.land.now s.text.now (sym c.in_ok-check.ensures) (omega (arith, long, keys, v.0, room)) (appended_same (text_is s.card s.land.now) (appended_more p c.put_values-end.ensures (omega (arith, p.stop, keys, v.0, room))))
