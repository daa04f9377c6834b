-- `add_number`: the chamber's refusal, and then 13 and 14.
use native.Mathlib.Omega.{arith}
use Rattle.std.proofs.Common.{rules}
use mathlib.Core.Path.{◌≡◌, refl, sym, ap, ◌∙◌}
use mathlib.Core.Bool.{true, false}
use Rattle.std.proofs.lemmas.Bool.{le-ltb, lt-ltb}
use Prim.Native.Nat.{ℕ}
use lib.Dec.{ltb}
use Rattle.rules.specs.Site.{first_refusal}
use Rattle.laws.specs.Outcomes.{first_passed}
use Rattle.pins_laws.specs.Granted.{chamber_granted}
use Rattle.pins_rules.specs.Refusals.{refusal_number, outcome_number}
use Rattle.pins_rules.specs.Table.{held, pin, pinned, stands as table_stands}
use Rattle.pins_rules.specs.Calls.{add_number}
use Rattle.pin_numbers.proofs.Passing.{passed_on, pin_stands}
use Rattle.pin_numbers.proofs.add_number.Goals as goal

pub returns-in_err-chamber_number : goal.returns-in_err-chamber_number
unfolding add_number
returns-in_err-chamber_number c =
    let same : outcome_number c.from_residual.result ≡ refusal_number c.in_err-chamber_number.field-0.0 = search rules in
    same ∙ passed_on c.in_err-chamber_number.field-0.0 _ c.in_err-chamber_number.ensures

pub pin-requires : goal.pin-requires
pin-requires c = let g = chamber_granted _ _ _ (sym c.in_ok-chamber_number.ensures) in (omega (arith, g.known.most), g.below)

pub returns-then-pinned : goal.returns-then-pinned
unfolding add_number pinned first_refusal
returns-then-pinned c =
    let has = c.args.table.now in
    let stands_is : table_stands (pin c.args.crew c.args.chamber) has ≡ true = pin_stands _ _ has c.stands-pinned.ensures c.pin.ensures (search rules) in
    sym (first_passed _ _ (sym c.in_ok-chamber_number.ensures) ∙ rw stands_is refl)

pub held-full-requires : goal.held-full-requires
held-full-requires c = omega (arith, (chamber_granted c.args.table.now c.args.crew c.args.chamber (sym c.in_ok-chamber_number.ensures)).is_sound.sized)

pub returns-then-full : goal.returns-then-full
unfolding add_number pinned first_refusal
returns-then-full c =
    let has = c.args.table.now in
    let stands_is : table_stands (pin c.args.crew c.args.chamber) has ≡ false = pin_stands _ _ has c.stands-pinned.ensures c.pin.ensures (search rules) in
    let room_is : ltb (held c.args.crew has) 32 ≡ false = sym (ap (λ (n : ℕ). ltb n 32) c.held-full.ensures) ∙ le-ltb _ _ c.if-full.true in
    sym (first_passed _ _ (sym c.in_ok-chamber_number.ensures) ∙ rw (stands_is, room_is) refl)

pub returns : goal.returns
unfolding add_number pinned first_refusal
returns c =
    let has = c.args.table.now in
    let stands_is : table_stands (pin c.args.crew c.args.chamber) has ≡ false = pin_stands _ _ has c.stands-pinned.ensures c.pin.ensures (search rules) in
    let room_is : ltb (held c.args.crew has) 32 ≡ true = sym (ap (λ (n : ℕ). ltb n 32) c.held-full.ensures) ∙ lt-ltb _ _ c.if-full.false in
    sym (first_passed _ _ (sym c.in_ok-chamber_number.ensures) ∙ rw (stands_is, room_is) refl)
