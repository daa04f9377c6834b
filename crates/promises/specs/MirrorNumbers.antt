-- Two waters of which one is the other turned east for west: their checks and their steps have the same numbers.
use Rattle.std.specs.Prelude.{suc, ◌≡◌}
use Rattle.std.proofs.Math.Path.{ap₂}
use Rattle.std.proofs.Math.Bool.{◌&&◌, and_comm}
use Rattle.std.proofs.Common.{arith}
use Rattle.rules.specs.declared.Card.{Card}
use Rattle.rules.specs.Grid.{Field}
use Rattle.rules.specs.Site.{Water, is_zero, grounds_fit, heights_fit, velocities_fit, walls_still, values_fit}
use Rattle.rules.specs.Step.{Rule, within_limit, new_east, limit_kept, new_heights_fit, new_velocities_fit, number}
use Rattle.rules.proofs.Fair.{Fair}
use Rattle.laws.specs.Numbers.{abs_neg}
use Rattle.laws.specs.Grids.{all_at_mirror, all_mirror, all_same}
use Rattle.promises.specs.Mirror as M
use Rattle.promises.specs.Mirror.{Mirror, MirrorField}

module _ (c : Card) (w w' : Water) (𝓜 : Mirror c w w') (g g' : Field) (𝓖 : MirrorField c.columns c.rows g g') where
  limit_same : limit_kept c w' ≡ limit_kept c w
  unfolding limit_kept
  limit_same = all_at_mirror c.columns c.rows (within_limit c w) (within_limit c w') (M.limits c w w' 𝓜)

  heights_same : new_heights_fit c w' ≡ new_heights_fit c w
  unfolding new_heights_fit
  heights_same = all_at_mirror c.columns c.rows _ _ (λ i i' j e h. rw (M.new_heights c w w' 𝓜 i i' j e h))

  module _ (rule : Rule) (fair : Fair rule) where
    speeds_same : new_velocities_fit rule c g' w' ≡ new_velocities_fit rule c g w
    unfolding new_velocities_fit
    speeds_same =
        ap₂ ◌&&◌
        (all_at_mirror (suc c.columns) c.rows _ _ (λ i i' j e h. rw (M.new_easts c w w' 𝓜 g g' 𝓖 rule fair i i' j (omega arith) h, abs_neg (new_east rule c g w i' j))))
        (all_at_mirror c.columns (suc c.rows) _ _ (λ i i' j e h. rw (M.new_norths c w w' 𝓜 g g' 𝓖 rule fair i i' j e)))

    pub numbers : number rule c g' w' ≡ number rule c g w
    unfolding number
    numbers = rw (limit_same, heights_same, speeds_same)

  pub values_same : values_fit c g' w' ≡ values_fit c g w
  unfolding values_fit grounds_fit heights_fit velocities_fit walls_still
  values_same =
      ap₂ ◌&&◌
      (ap₂ ◌&&◌
      (ap₂ ◌&&◌
      (all_at_mirror c.columns c.rows _ _ (λ i i' j e h. rw (𝓖.same i i' j e h)))
      (all_at_mirror c.columns c.rows _ _ (λ i i' j e h. rw (𝓜.height i i' j e h))))
      (ap₂ ◌&&◌
      (all_at_mirror (suc c.columns) c.rows _ _ (λ i i' j e h. rw (𝓜.east i i' j (omega arith) h, abs_neg (w.east i' j))))
      (all_at_mirror c.columns (suc c.rows) _ _ (λ i i' j e h. rw (𝓜.north i i' j e (omega arith))))))
      (ap₂ ◌&&◌
      (all_same c.rows _ _ (λ j h.
      rw (𝓜.east 0 c.columns j (omega arith) h, 𝓜.east c.columns 0 j (omega arith) h)
      (rw (abs_neg (w.east c.columns j), abs_neg (w.east 0 j)) (and_comm (is_zero (w.east c.columns j)) (is_zero (w.east 0 j))))))
      (all_mirror c.columns _ _ (λ i i' e. rw (𝓜.north i i' 0 e (omega arith), 𝓜.north i i' c.rows e (omega arith)))))
