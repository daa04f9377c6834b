-- `depth_text`: the dot is set behind the part, so that the part is what was put; the contract says nothing of the rest.
use Rattle.std.proofs.Common.{◌≡◌, sym, ap, ◌∙◌, ℕ, ℤ, List, length, take, set, arith}
use native.Mathlib.Nat.{le_refl}
use lib.Seq.{take-set-le}
use mir.Syntax.{w32}
use mir.Val.{to_z, of_z, SFits}
use Rattle.rules.specs.Text.{depth_text}
use Rattle.rules.specs.Calls.{text_part, text_scratch}
use Rattle.put.specs.Put.{Put}
use Rattle.put.proofs.Laws.{put_same, put_part, put_within, put_whole, put_fits}
use Rattle.text.proofs.Laws.{told_put, signed_same}
use Rattle.depth_texts.proofs.spoilt.depth_text.Goals as goal

-- the text was put, and lies within the scratch
put : (h : ℤ) {r : ℕ} {old new : List ℕ} → SFits w32 h → r ≡ length (text_part (to_z w32 (of_z w32 h)) old) → new ≡ text_scratch (to_z w32 (of_z w32 h)) old
    → Put (depth_text h) r old new
put h f long bytes = put_same (signed_same h f) (told_put _ long bytes)

-- the byte behind it is no part of it
front : (r : ℕ) (new : List ℕ) → take r (set new r 46) ≡ take r new
front r new = take-set-le r new r 46 (le_refl _)

pub returns-then-n-scratch-clause-text : goal.returns-then-n-scratch-clause-text
unfolding text_part
returns-then-n-scratch-clause-text c =
    let told = c.write_text-n.ensures in
    put_whole (put c.args.height c.ranges.height told.length told.scratch) c.if-n-scratch.true

pub bounds-scratch-n : goal.bounds-scratch-n
bounds-scratch-n c =
    let told = c.write_text-n.ensures in
    omega (arith, c.if-n-scratch.false, put_fits (put c.args.height c.ranges.height told.length told.scratch))

pub slice_bounds-result-end : goal.slice_bounds-result-end
slice_bounds-result-end c =
    let told = c.write_text-n.ensures in
    put_within (put c.args.height c.ranges.height told.length told.scratch) ∙ ap length (sym (front c.write_text-n.result c.write_text-n.new.scratch))

pub returns-clause-text : goal.returns-clause-text
unfolding text_part
returns-clause-text c =
    let told = c.write_text-n.ensures in
    front c.write_text-n.result c.write_text-n.new.scratch ∙ put_part (put c.args.height c.ranges.height told.length told.scratch)

pub returns-clause-whole : goal.returns-clause-whole
returns-clause-whole c h =
    let told = c.write_text-n.ensures in
    let within = put_within (put c.args.height c.ranges.height told.length told.scratch) in
    absurd (c.if-n-scratch.false (within ∙ ap length (sym (front c.write_text-n.result c.write_text-n.new.scratch)) ∙ h ∙ sym c.write_text-n.auto.scratch))
