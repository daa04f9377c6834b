-- `number`: each byte behind those read so far.
use Rattle.std.proofs.Common.{◌≡◌, ◌<◌, ℕ, ◌+◌, sym, ap, ◌∙◌, arith, drop, get_or}
use Rattle.std.proofs.Math.Path.{subst⁻¹}
use Rattle.rules.specs.Sheet.{number_in}
use Rattle.laws.specs.Bytes.{number_none}
use Rattle.numbers.proofs.Loops.{fits_more, below_more, part_length, part_byte, number_turn}
use Rattle.numbers.proofs.number.Goals as goal

-- the byte of this turn
byte : (c : goal.After-from) → c.from.result ≡ get_or c.args.s.now (c.args.at + c.loop-byte.byte-index) 0
byte c = c.from.ensures ∙ part_byte c.args.s.now c.args.at c.args.k c.loop-byte.byte-index c.requires.inside c.loop-byte-test.true

small : (c : goal.After-from) → c.from.result < 256
small c = subst⁻¹ (λ (x : ℕ). x < 256) (byte c) (c.type_inv.s _).fits

pub loop-byte-init : goal.loop-byte-init
loop-byte-init c = (omega arith, sym (number_none _))

pub overflow_mul-n : goal.overflow_mul-n
overflow_mul-n c =
    let l = c.loop-byte in
    let long = part_length c.args.s.now c.args.at c.args.k c.requires.inside in
    let f = fits_more l.byte-index l.n 0 (omega (arith, long, c.requires.narrow)) l.invariant.0 (omega arith) in
    record { fits = omega arith }

pub overflow_add-n : goal.overflow_add-n
overflow_add-n c =
    let l = c.loop-byte in
    let long = part_length c.args.s.now c.args.at c.args.k c.requires.inside in
    record { fits = fits_more l.byte-index l.n c.from.result (omega (arith, long, c.requires.narrow)) l.invariant.0 (small c) }

pub loop-byte-preserved : goal.loop-byte-preserved
loop-byte-preserved c =
    let l = c.loop-byte in
    (below_more l.byte-index l.n c.from.result l.invariant.0 (small c), number_turn c.args.s.now c.args.at l.byte-index l.n c.from.result l.invariant.1 (byte c))

pub returns : goal.returns
returns c =
    let a = c.args in
    let e : c.loop-byte.byte-index ≡ a.k = omega (arith, part_length a.s.now a.at a.k c.requires.inside) in
    c.loop-byte.invariant.1 ∙ ap (λ (j : ℕ). number_in j (drop a.at a.s.now)) e
