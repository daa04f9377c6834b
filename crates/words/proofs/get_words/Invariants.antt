-- `get_words`: one turn reads one word more.
use mathlib.Core.Path.{◌≡◌}
use mathlib.Core.List.{◌++◌}
use Prim.Native.Nat.{◌≤◌}
use lib.ListN.{length, drop}
use Rattle.rules.specs.Sheet.{words_in}
use Rattle.words.proofs.get_words.Given as goal

abbrev pub invariant-loop-i : goal.invariant-loop-i
invariant-loop-i l = (l.i-end ≡ length l.initial.words) × (l.i ≤ l.i-end) × (length l.words ≡ length l.initial.words) × (l.words ≡ words_in l.i (drop l.at l.s) ++ drop l.i l.initial.words)
