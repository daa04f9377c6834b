-- Two rules that give every face the same new velocity are one, and so they make one step.
use Rattle.std.specs.Prelude.{ℕ, ◌≡◌}
use Rattle.rules.specs.declared.Face.{Face}
use Rattle.rules.specs.Step.{Rule}

module _ (rule rule' : Rule) (agree : (dt d : ℕ) (f : Face) → rule dt d f ≡ rule' dt d f) where
  pub same_rule : rule ≡ rule'
  same_rule = λ x dt d f. agree dt d f x
