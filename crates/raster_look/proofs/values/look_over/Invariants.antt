-- `look_over`: the words that are left are those behind the ones looked at.
use Prim.Native.Nat.{◌-◌}
use lib.ListN.{length, drop}
use Rattle.std.specs.Prelude.{option_map}
use Rattle.rules.specs.Raster.{words_of}
use Rattle.decimals.specs.Values.{value_of}
use Rattle.raster_laws.specs.Looks.{Looking}
use Rattle.raster_look.proofs.values.look_over.Given as goal

abbrev pub invariant-loop-p : goal.invariant-loop-p
invariant-loop-p l = Looking l.text (words_of (drop l.at l.text)) (option_map value_of l.no_data) l.fit l.count l.p

abbrev pub decreases-loop-p : goal.decreases-loop-p
decreases-loop-p l = length l.text - l.p
