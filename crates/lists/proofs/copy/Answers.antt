use mathlib.Core.Path.{refl}
use native.Mathlib.Omega.{arith}
use lib.IntN.{pos}
use Rattle.laws.specs.Signed.{word_is}
use Rattle.laws.specs.Copies.{begin, more, done}
use Rattle.lists.proofs.copy.Goals as goal

pub loop-k-init : goal.loop-k-init
loop-k-init c = begin c.requires

pub loop-k-preserved : goal.loop-k-preserved
loop-k-preserved c = more (pos 0) c.loop-k.invariant (omega arith) (word_is _ c.to-1.given refl)

pub returns : goal.returns
returns c = done c.loop-k.invariant (omega arith)
