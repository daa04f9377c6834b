-- `values_fit`: the bands lie in the lists.
use native.Mathlib.Omega.{arith}
use Rattle.laws.specs.Facts.{length_facts}
use Rattle.laws.specs.Strides.{state_words}
use Rattle.laws.specs.Values.{values_joined}
use Rattle.values.proofs.values_fit.Goals as goal

pub overflow_sub-faces : goal.overflow_sub-faces
overflow_sub-faces g c = let w = state_words c.args.card in omega arith

pub all_between-grounds-requires : goal.all_between-grounds-requires
all_between-grounds-requires g c = let l = length_facts _ _ _ c.requires.lengths in omega arith

pub all_between-depths-requires : goal.all_between-depths-requires
all_between-depths-requires g c = let l = length_facts _ _ _ c.requires.lengths in omega arith

pub all_between-speeds-requires : goal.all_between-speeds-requires
all_between-speeds-requires g c = let l = length_facts _ _ _ c.requires.lengths in omega arith

pub walls_still-requires : goal.walls_still-requires
walls_still-requires g c = record { card = c.requires.card; words = (length_facts _ _ _ c.requires.lengths).state }

pub returns : goal.returns
returns g c =
    let a = c.args.card in
    let n = c.cells-n.ensures.0 in
    let m = c.state_length.ensures.0 in
    values_joined a _ _ (rw n at c.all_between-grounds.ensures) (rw n at c.all_between-depths.ensures) (rw (n, m) at c.all_between-speeds.ensures) c.walls_still.ensures
