-- A chamber's place along one axis, from 0 to the site's far end: what the check of it says, and the cell that it lies in.
use Rattle.std.specs.Prelude.{◌≡◌, refl, true, List, ℕ, ◌*◌, ◌≤◌, ◌<◌, ◌^◌, T, leb, ℤ, pos, negsuc, nat_abs, length, get_or}
use Rattle.std.proofs.Common.{mul-le-mul, le_trans, arith, leb→le, le→leb}
use Rattle.std.specs.Int.Signed.{non_neg}
use Rattle.std.specs.Float.{binary64}
use Rattle.std.specs.Float.Ieee.{in_float}
use Rattle.rules.specs.Search.{along_fits, all_along, cell_along}
use Rattle.laws.specs.Tests.{and_right, to_T, true_of}
use Rattle.laws.specs.Grids.{all_at_lem}

-- it is not below 0, and at most the far end
pub along_low : (far : ℕ) (z : ℤ) → along_fits far z ≡ true → T (non_neg z)
along_low far (pos n) e = tt
along_low far (negsuc n) e = to_T e

pub along_whole : (far : ℕ) (z : ℤ) → along_fits far z ≡ true → z ≡ pos (nat_abs z)
along_whole far (pos n) e = refl
along_whole far (negsuc n) e = absurd (to_T e)

pub along_high : (far : ℕ) (z : ℤ) → along_fits far z ≡ true → nat_abs z ≤ far
along_high far (pos n) e = leb→le n far (and_right (leb 0 n) (leb n far) (to_T e))
along_high far (negsuc n) e = absurd (to_T e)

-- turned into a float it loses nothing
pub along_float : (far : ℕ) (z : ℤ) → far ≤ 2 ^ 53 → along_fits far z ≡ true → T (in_float binary64 z)
unfolding in_float
along_float far (pos n) b e = le→leb n (2 ^ 53) (le_trans (along_high far (pos n) e) b)
along_float far (negsuc n) b e = absurd (to_T e)

-- a whole list of them
pub all_along_lem : (far : ℕ) (xs : List ℤ) → all_along far xs ≡ true → (k : ℕ) → k < length xs → along_fits far (get_or xs k (pos 0)) ≡ true
all_along_lem far xs e k h = true_of (along_fits far (get_or xs k (pos 0))) (all_at_lem (length xs) (λ k. along_fits far (get_or xs k (pos 0))) (to_T e) k h)

-- how far a site reaches: 128 cells of 20,000,000 at most
pub reach_high : {n side : ℕ} → n ≤ 128 → side ≤ 20000000 → n * side ≤ 2560000000
reach_high p q = mul-le-mul p q

pub cell_below : (side count : ℕ) (x : ℤ) → 0 < count → cell_along side count x < count
cell_below side count x h = omega arith
