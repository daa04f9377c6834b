-- `tally_line`: three words with their numbers and a line feed, each behind the one before.
use Rattle.std.proofs.Common.{rules, ◌≡◌, ℕ, ◌++◌, ap, ◌∙◌, to_z, of_z}
use Rattle.std.specs.Int.{w32}
use lib.IntN.{nat_abs}
use Rattle.rules.specs.Play.{steps_word, reason_word, top_word, line_feed, labelled, tally_line}
use Rattle.print.proofs.Pages.{put_more}
use Rattle.print.proofs.tally_line.Goals as goal

pub returns-clause-text : goal.returns-clause-text
unfolding tally_line
returns-clause-text c =
    let t = c.args.tally in
    let told : to_z w32 (of_z w32 t.top) ≡ t.top = search rules in
    let size = c.size.ensures ∙ ap nat_abs told in
    let top = labelled top_word (nat_abs t.top) in
    let reason = labelled reason_word t.reason in
    put_more c.args.page.now (labelled steps_word t.steps) (reason ++ (top ++ line_feed)) c.put_labelled.ensures.text
    (put_more c.put_labelled.new.self reason (top ++ line_feed) c.put_labelled-2.ensures.text
    (put_more c.put_labelled-2.new.self top line_feed (c.put_labelled-3.ensures.text ∙ ap (λ (n : ℕ). c.put_labelled-2.new.self ++ labelled top_word n) size) c.put.ensures))
