-- `depth_text`: what was put lies at the front of the scratch; where it takes all of it, the scratch is that part.
use mathlib.Core.Path.{refl, sym, ◌∙◌}
use Rattle.put.proofs.Laws.{put_same, put_part, put_within, put_whole}
use Rattle.text.proofs.Laws.{told_put, signed_same}
use Rattle.rules.specs.Calls.{text_part}
use Rattle.text.proofs.depth_text.Goals as goal

pub returns-then-n-scratch : goal.returns-then-n-scratch
unfolding text_part
returns-then-n-scratch c =
    let told = c.write_text-n.ensures in
    let put = told_put _ told.length told.scratch in
    record { text = put_whole (put_same (signed_same _ c.ranges.height) put) c.if-n-scratch.true; place = refl; whole = λ _. refl }

pub slice_bounds-result-end : goal.slice_bounds-result-end
slice_bounds-result-end c = put_within (told_put _ c.write_text-n.ensures.length c.write_text-n.ensures.scratch)

pub returns : goal.returns
unfolding text_part
returns c =
    let told = c.write_text-n.ensures in
    let put = told_put _ told.length told.scratch in
    record {
      text = put_part (put_same (signed_same _ c.ranges.height) put);
      place = refl;
      whole = λ h. absurd (c.if-n-scratch.false (put_within put ∙ h ∙ sym c.write_text-n.auto.scratch));
    }
