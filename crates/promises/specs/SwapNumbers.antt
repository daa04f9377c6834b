-- Two waters of which one is the other with its axes swapped: their checks and their steps have the same numbers.
use Rattle.std.specs.Prelude.{suc, ◌≡◌}
use Rattle.std.proofs.Math.Path.{ap₂}
use Rattle.std.proofs.Math.Bool.{◌&&◌}
use Rattle.std.proofs.Common.{arith}
use Rattle.rules.specs.declared.Card.{Card}
use Rattle.rules.specs.Grid.{Field}
use Rattle.rules.specs.Site.{Water, grounds_fit, heights_fit, velocities_fit, walls_still, values_fit}
use Rattle.rules.specs.Step.{Rule, within_limit, limit_kept, new_heights_fit, new_velocities_fit, number}
use Rattle.rules.specs.Turn.{swap_card}
use Rattle.laws.specs.Tests.{and_cross}
use Rattle.laws.specs.Grids.{all_at_swap, all_same}
use Rattle.promises.specs.Swap as S
use Rattle.promises.specs.Swap.{Swapped, SwappedField}

module _ (c : Card) (w w' : Water) (𝓢 : Swapped c w w') (g g' : Field) (𝓖 : SwappedField c.columns c.rows g g') where
  limit_same : limit_kept (swap_card c) w' ≡ limit_kept c w
  unfolding limit_kept
  limit_same = all_at_swap c.columns c.rows (within_limit c w) (within_limit (swap_card c) w') (S.limits c w w' 𝓢)

  heights_same : new_heights_fit (swap_card c) w' ≡ new_heights_fit c w
  unfolding new_heights_fit
  heights_same = all_at_swap c.columns c.rows _ _ (λ i j hi hj. rw (S.new_heights c w w' 𝓢 i j hi hj))

  module _ (rule : Rule) where
    speeds_same : new_velocities_fit rule (swap_card c) g' w' ≡ new_velocities_fit rule c g w
    unfolding new_velocities_fit
    speeds_same =
        and_cross
        (all_at_swap c.columns (suc c.rows) _ _ (λ i j hi hj. rw (S.new_easts c w w' 𝓢 g g' 𝓖 rule i j hj)))
        (all_at_swap (suc c.columns) c.rows _ _ (λ i j hi hj. rw (S.new_norths c w w' 𝓢 g g' 𝓖 rule i j hi)))

    pub numbers : number rule (swap_card c) g' w' ≡ number rule c g w
    unfolding number
    numbers = rw (limit_same, heights_same, speeds_same)

  pub values_same : values_fit (swap_card c) g' w' ≡ values_fit c g w
  unfolding values_fit grounds_fit heights_fit velocities_fit walls_still
  values_same =
      ap₂ ◌&&◌
      (ap₂ ◌&&◌
      (ap₂ ◌&&◌
      (all_at_swap c.columns c.rows _ _ (λ i j hi hj. rw (𝓖.same i j hi hj)))
      (all_at_swap c.columns c.rows _ _ (λ i j hi hj. rw (𝓢.height i j hi hj))))
      (and_cross
      (all_at_swap c.columns (suc c.rows) _ _ (λ i j hi hj. rw (𝓢.east i j (omega arith) hj)))
      (all_at_swap (suc c.columns) c.rows _ _ (λ i j hi hj. rw (𝓢.north i j hi (omega arith))))))
      (and_cross
      (all_same c.columns _ _ (λ j hj. rw (𝓢.east 0 j (omega arith) hj, 𝓢.east c.rows j (omega arith) hj)))
      (all_same c.rows _ _ (λ i hi. rw (𝓢.north i 0 hi (omega arith), 𝓢.north i c.columns hi (omega arith)))))
