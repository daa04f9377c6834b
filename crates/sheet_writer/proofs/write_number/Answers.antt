-- `write_number`: the check comes first, and the room last.
use mathlib.Core.Path.{◌≡◌, sym, ap₂, ◌∙◌}
use mathlib.Core.List.{List}
use Prim.Native.Nat.{ℕ}
use native.Mathlib.Omega.{arith}
use lib.IntN.{ℤ}
use lib.Seq.{take-length}
use Rattle.std.proofs.Common.{rules}
use Rattle.rules.specs.declared.Card.{Card}
use Rattle.rules.specs.Refusals.{refusal_number, outcome_number}
use Rattle.rules.specs.Site.{check}
use Rattle.laws.specs.Facts.{check_sound}
use Rattle.sheet_writer.proofs.Writing.{write_checked, write_8, write_0}
use Rattle.sheet_writer.proofs.write_number.Goals as goal

-- what the check of two lists tells of the site, if they are the site's: whole, or from the front to the end
ruleset whole = (take-length, rules)

told : (c : Card) (g s land state : List ℤ) (n : ℕ) → n ≡ check c land state → land ≡ g → state ≡ s → n ≡ check c g s
told c g s land state n e same_land same_state = e ∙ ap₂ (check c) same_land same_state

pub returns-in_err-check : goal.returns-in_err-check
returns-in_err-check c =
    let a = c.args in
    let same : outcome_number c.from_residual.result ≡ refusal_number c.in_err-check.field-0.0 = search rules in
    same ∙ write_checked _ _ _ _ _ (told a.card a.land.now a.state.now _ _ _ c.in_err-check.ensures (search whole) (search whole))

pub sheet_size-requires : goal.sheet_size-requires
sheet_size-requires c = (check_sound _ _ _ (sym c.in_ok-check.ensures)).card

pub returns-then-room-sheet_size : goal.returns-then-room-sheet_size
returns-then-room-sheet_size c =
    let a = c.args in
    write_8 _ _ _ _ (told a.card a.land.now a.state.now _ _ _ c.in_ok-check.ensures (search whole) (search whole)) (omega (arith, c.if-room-sheet_size.true, c.sheet_size.ensures.0))

pub returns : goal.returns
returns c =
    let a = c.args in
    write_0 _ _ _ _ (told a.card a.land.now a.state.now _ _ _ c.in_ok-check.ensures (search whole) (search whole)) (omega (arith, c.if-room-sheet_size.false, c.sheet_size.ensures.0))
