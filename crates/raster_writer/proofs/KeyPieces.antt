-- The lines of the keys, laid in seven pieces from the front of a list that has room for all of them.
use Prim.Native.Nat.{ℕ, ◌+◌, ◌≤◌}
use mathlib.Core.Path.{◌≡◌}
use mathlib.Core.List.{List, [], ◌∷◌, ◌++◌, append_assoc}
use native.Mathlib.Omega.{arith}
use lib.ListN.{length}
use Rattle.rules.specs.declared.Card.{Card}
use Rattle.rules.specs.Text.{decimal}
use Rattle.rules.specs.Play.{line_feed}
use Rattle.rules.specs.Raster.{metres, key_line, key_lines}
use Rattle.print.specs.Appended.{Appended}
use Rattle.print.proofs.Laws.{appended_more, appended_length}

-- "ncols ", "nrows ", and the two lines of the corner with "cellsize "
abbrev pub columns_key : List ℕ
columns_key = 110 ∷ 99 ∷ 111 ∷ 108 ∷ 115 ∷ 32 ∷ []

abbrev rows_key : List ℕ
rows_key = 110 ∷ 114 ∷ 111 ∷ 119 ∷ 115 ∷ 32 ∷ []

abbrev corner_keys : List ℕ
corner_keys =
    120 ∷ 108 ∷ 108 ∷ 99 ∷ 111 ∷ 114 ∷ 110 ∷ 101 ∷ 114 ∷ 32 ∷ 48 ∷ 10
    ∷ 121 ∷ 108 ∷ 108 ∷ 99 ∷ 111 ∷ 114 ∷ 110 ∷ 101 ∷ 114 ∷ 32 ∷ 48 ∷ 10
    ∷ 99 ∷ 101 ∷ 108 ∷ 108 ∷ 115 ∷ 105 ∷ 122 ∷ 101 ∷ 32 ∷ []

pub pieces : (c : Card)
    → (((((columns_key ++ (decimal c.columns ++ line_feed)) ++ rows_key) ++ (decimal c.rows ++ line_feed)) ++ corner_keys) ++ metres c.dx) ++ line_feed ≡ key_lines c
unfolding key_lines key_line
pieces c = simp append_assoc

-- ---- One piece behind the other

pub record Grown (t : List ℕ) (end most : ℕ) (old new : List ℕ) : Type 0 where
  pub laid_so : Appended t 0 end old new
  pub few : end ≤ most
  pub room : most ≤ length old

module _ {a : List ℕ} {end : ℕ} (most : ℕ) {old mid : List ℕ} (g : Grown a end most old mid) where
  pub grown_long : length mid ≡ length old
  grown_long = appended_length g.laid_so (omega (arith, g.few, g.room))

  pub grow : {b : List ℕ} {end' : ℕ} {new : List ℕ} (k : ℕ) → Appended b end end' mid new → end' ≤ end + k → most + k ≤ length old → Grown (a ++ b) end' (most + k) old new
  grow k p few room = record { laid_so = appended_more g.laid_so p (omega (arith, g.few, g.room)); few = omega (arith, g.few, few); room = room }
