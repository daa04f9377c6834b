-- `pumped_on`: no list is longer than the longest.
use Rattle.std.proofs.Common.{arith}
use Rattle.step.proofs.pumped_on.Goals as goal

pub whole_as_slice-pumped_by_draft : goal.whole_as_slice-pumped_by_draft
whole_as_slice-pumped_by_draft g c = omega (arith, c.requires.most)

pub whole_as_slice-pumped_by_draft-2 : goal.whole_as_slice-pumped_by_draft-2
whole_as_slice-pumped_by_draft-2 g c = omega (arith, c.requires.most)

pub whole_as_slice-pumped_by_draft-3 : goal.whole_as_slice-pumped_by_draft-3
whole_as_slice-pumped_by_draft-3 g c = omega (arith, c.requires.most)
