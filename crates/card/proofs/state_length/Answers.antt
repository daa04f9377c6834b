-- `state_length`: its products and their sum, counted as the definition counts them.
use native.Mathlib.Numerals.{add-one}
use native.Mathlib.Omega.{arith}
use Rattle.rules.specs.Site.{state_length}
use Rattle.laws.specs.Facts.{card_facts}
use Rattle.card.proofs.state_length.Goals as goal

pub overflow_add-result-3 : goal.overflow_add-result-3
overflow_add-result-3 c = let b = card_facts _ c.requires in omega arith

pub returns : goal.returns
unfolding state_length
returns c = let b = card_facts _ c.requires in (simp add-one, omega arith)
