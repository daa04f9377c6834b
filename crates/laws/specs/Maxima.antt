-- The greater of two numbers: a smaller one changes nothing, and three are joined either way.
use Rattle.std.specs.Prelude.{◌≡◌, ℤ, T}
use Rattle.std.specs.Int.Signed.{le_z}
use Rattle.rules.specs.Grid.{max_z}
use Rattle.laws.specs.Numbers.{le_z_antisymm, le_z_trans, le_z_refl}
use Rattle.laws.specs.Grids.{max_left, max_right, max_le}

pub max_absorbs : (a b : ℤ) → T (le_z b a) → max_z a b ≡ a
max_absorbs a b h = le_z_antisymm (max_z a b) a (max_le a b a (le_z_refl a) h) (max_left a b)

pub max_assoc : (a b c : ℤ) → max_z (max_z a b) c ≡ max_z a (max_z b c)
max_assoc a b c =
    le_z_antisymm (max_z (max_z a b) c) (max_z a (max_z b c))
    (max_le (max_z a b) c (max_z a (max_z b c))
    (max_le a b (max_z a (max_z b c)) (max_left a (max_z b c)) (le_z_trans b (max_z b c) (max_z a (max_z b c)) (max_left b c) (max_right a (max_z b c))))
    (le_z_trans c (max_z b c) (max_z a (max_z b c)) (max_right b c) (max_right a (max_z b c))))
    (max_le a (max_z b c) (max_z (max_z a b) c)
    (le_z_trans a (max_z a b) (max_z (max_z a b) c) (max_left a b) (max_left (max_z a b) c))
    (max_le b c (max_z (max_z a b) c) (le_z_trans b (max_z a b) (max_z (max_z a b) c) (max_right a b) (max_left (max_z a b) c)) (max_right (max_z a b) c)))
