-- `word`: the four bytes, read with the least significant first and swapped, are the number's.
use Rattle.std.proofs.Common.{sym, ap, ◌∙◌, arith, ℕ, ◌+◌, ◌*◌, ◌/◌, ◌%◌, ◌<◌, ◌≡◌, get_or, drop, get_or-drop, add-zero}
use Rattle.laws.specs.Swapped.{swapped, number_swapped}
use Rattle.words.proofs.word.Goals as goal

pub returns : goal.returns
unfolding swapped
returns c =
    let at = c.args.at in
    let l = c.args.s.now in
    let n = c.from_le_bytes.result in
    let few : n < 4294967296 = c.from_le_bytes.type_inv in
    let high : n / 16777216 % 256 ≡ n / 16777216 = omega (arith, few) in
    c.swap_bytes.ensures
    ∙ ap (λ (x : ℕ). n % 256 * 16777216 + n / 256 % 256 * 65536 + n / 65536 % 256 * 256 + x) high
    ∙ ap swapped c.from_le_bytes.ensures
    ∙ number_swapped (drop at l) _ _ _ _ (c.type_inv.s at).fits (c.type_inv.s (at + 1)).fits (c.type_inv.s (at + 2)).fits (c.type_inv.s (at + 3)).fits
    (ap (λ (i : ℕ). get_or l i 0) (sym (add-zero at)) ∙ sym (get_or-drop at l 0 0)) (sym (get_or-drop at l 1 0)) (sym (get_or-drop at l 2 0)) (sym (get_or-drop at l 3 0))
