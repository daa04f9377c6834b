-- Sums over a rectangle of places: of two fields that agree there, and how great one can be.
use Prim.Native.Nat.{ℕ, zero, suc, ◌+◌, ◌*◌, ◌<◌, zero-le}
use Rattle.std.specs.Prelude.{◌≡◌, ◌&&◌, ℤ, pos, ◌+ℤ◌}
use Rattle.std.proofs.Common.{le_refl, arith}
use Rattle.std.specs.Int.Signed.{le_z}
use Rattle.std.proofs.Math.Dec.{T, le→leb}
use Rattle.rules.specs.Grid.{Field, sum, sum_at}
use Rattle.rules.proofs.Sums.{sum_same}
use Rattle.laws.specs.Tests.{and_both, and_left, and_right}
use Rattle.laws.specs.Numbers.{le_z_trans, le_z-add}
use Rattle.laws.specs.Between.{between}

pub sum_at_same : (m n : ℕ) (f g : Field) → ((i j : ℕ) → i < m → j < n → f i j ≡ g i j) → sum_at m n f ≡ sum_at m n g
unfolding sum_at
sum_at_same m n f g h = sum_same n _ _ (λ j hj. sum_same m _ _ (λ i hi. h i j hi hj))

-- numbers from 0 to b, added up
module _ (b : ℕ) where
  sum_between : (n : ℕ) (f : ℕ → ℤ) → ((k : ℕ) → k < n → T (between (pos 0) (pos b) (f k))) → T (between (pos 0) (pos (n * b)) (sum n f))
  unfolding sum
  sum_between zero f h = le→leb 0 (zero * b) zero-le
  sum_between (suc n) f h =
      let s = sum n f in
      let before : T (le_z (pos 0) s && le_z s (pos (n * b))) = sum_between n f (λ k l. h k (omega arith)) in
      let last : T (le_z (pos 0) (f n) && le_z (f n) (pos b)) = h n (le_refl (suc n)) in
      and_both (le_z (pos 0) (s +ℤ f n)) (le_z (s +ℤ f n) (pos (suc n * b)))
      (le_z-add (pos 0) s (pos 0) (f n) (and_left (le_z (pos 0) s) (le_z s (pos (n * b))) before) (and_left (le_z (pos 0) (f n)) (le_z (f n) (pos b)) last))
      (le_z_trans (s +ℤ f n) (pos (n * b + b)) (pos (suc n * b))
      (le_z-add s (pos (n * b)) (f n) (pos b) (and_right (le_z (pos 0) s) (le_z s (pos (n * b))) before) (and_right (le_z (pos 0) (f n)) (le_z (f n) (pos b)) last))
      (le→leb (n * b + b) (suc n * b) (omega arith)))

pub sum_at_between : (b m n : ℕ) (f : Field) → ((i j : ℕ) → i < m → j < n → T (between (pos 0) (pos b) (f i j))) → T (between (pos 0) (pos (n * (m * b))) (sum_at m n f))
unfolding sum_at
sum_at_between b m n f h = sum_between (m * b) n _ (λ j hj. sum_between b m (λ i. f i j) (λ i hi. h i j hi hj))
