-- `put_words`: one turn lays one word behind those that were laid.
use mathlib.Core.Path.{◌≡◌}
use Prim.Native.Nat.{◌≤◌}
use lib.ListN.{length, take}
use Rattle.rules.specs.Sheet.{words_bytes}
use Rattle.laws.specs.Laid.{laid}
use Rattle.words.proofs.put_words.Given as goal

abbrev pub invariant-loop-i : goal.invariant-loop-i
invariant-loop-i l = (l.i-end ≡ length l.words) × (l.i ≤ l.i-end) × (length l.out ≡ length l.initial.out) × (l.out ≡ laid l.initial.out l.at (words_bytes (take l.i l.words)))
