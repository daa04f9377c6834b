-- Document 02, [2]: when water is still. All velocities are 0; neighbouring wet cells have one surface, and each dry cell's ground is at or above its wet
-- neighbours' surface: a test of each inner face.
use Rattle.std.specs.Prelude.{ℕ, suc, Bool, true, false, ◌&&◌, List, ℤ, ◌+ℤ◌, ◌-ℤ◌}
use Rattle.std.specs.Int.Signed.{le_z}
use Rattle.rules.specs.declared.Card.{Card}
use Rattle.rules.specs.Grid.{Field, all_at}
use Rattle.rules.specs.Site.{Water, read_ground, read_state, is_zero}
use Rattle.promises.specs.InnerFaces.{every_inner}

-- ---- A face: of its cells K and L, by their heights and grounds

-- by which of them is dry: two wet ones have one surface; a dry one's ground is at or above the wet one's surface; of two dry ones nothing is asked
unfoldable pub rests_between : (dry_k dry_l : Bool) (h_k z_k h_l z_l : ℤ) → Bool
rests_between false false h_k z_k h_l z_l = is_zero (h_l +ℤ z_l -ℤ (h_k +ℤ z_k))
rests_between true false h_k z_k h_l z_l = le_z (h_l +ℤ z_l) z_k
rests_between false true h_k z_k h_l z_l = le_z (h_k +ℤ z_k) z_l
rests_between true true h_k z_k h_l z_l = true

abbrev pub rests : (h_k z_k h_l z_l : ℤ) → Bool
rests h_k z_k h_l z_l = rests_between (is_zero h_k) (is_zero h_l) h_k z_k h_l z_l

-- ---- A site

-- the face east of cell (i, j), and the face north of it
abbrev pub east_rests : Field → Water → ℕ → ℕ → Bool
east_rests g w i j = rests (w.height i j) (g i j) (w.height (suc i) j) (g (suc i) j)

abbrev pub north_rests : Field → Water → ℕ → ℕ → Bool
north_rests g w i j = rests (w.height i j) (g i j) (w.height i (suc j)) (g i (suc j))

-- every inner face
unfoldable pub faces_rest : Card → Field → Water → Bool
faces_rest c g w = every_inner c (east_rests g w) (north_rests g w)

-- all velocities 0
abbrev pub east_still : Water → ℕ → ℕ → Bool
east_still w i j = is_zero (w.east i j)

abbrev pub north_still : Water → ℕ → ℕ → Bool
north_still w i j = is_zero (w.north i j)

unfoldable pub all_still : Card → Water → Bool
all_still c w = all_at (suc c.columns) c.rows (east_still w) && all_at c.columns (suc c.rows) (north_still w)

unfoldable pub still_water : Card → (land state : List ℤ) → Bool
still_water c g s = all_still c (read_state c s) && faces_rest c (read_ground c g) (read_state c s)
