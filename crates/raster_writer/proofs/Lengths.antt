-- How long the text of a size and of a value is.
use Prim.Native.Nat.{ℕ, ◌+◌, ◌/◌, ◌≤◌, ◌<◌}
use mathlib.Core.Path.{◌≡◌, refl, sym, ap, ◌∙◌}
use mathlib.Core.Bool.{Bool, true, false}
use native.Mathlib.Omega.{arith}
use lib.IntN.{ℤ, pos, negsuc, nat_abs}
use lib.ListN.{length, length-append}
use lib.Dec.{ltb}
use borrow.Author.Tests.{ltb-true, ltb-false}
use Rattle.rules.specs.Raster.{metres, signed_metres}
use Rattle.laws.specs.Decimals.{decimal_one}
use Rattle.raster_writer.specs.Lines.{minus_text}
use Rattle.raster_writer.proofs.Laws.{two_digits, length-metres, signed_apart}

pub short_metres : (n : ℕ) → n < 10000000 → length (metres n) ≡ 8
short_metres n h = length-metres n ∙ (let e = ap length (decimal_one (n / 1000000) (omega arith)) in omega (arith, e))

pub long_metres : (n : ℕ) → 10000000 ≤ n → n < 100000000 → length (metres n) ≡ 9
long_metres n l h = length-metres n ∙ (let e = ap length (two_digits (n / 1000000) (omega arith) (omega arith)) in omega (arith, e))

pub metres_most : (n : ℕ) → n < 100000000 → length (metres n) ≤ 9
metres_most n h = go (ltb n 10000000) refl
  where
    go : (t : Bool) → ltb n 10000000 ≡ t → length (metres n) ≤ 9
    go true e = omega (arith, short_metres n (ltb-true n 10000000 e))
    go false e = omega (arith, long_metres n (ltb-false n 10000000 e) h)

-- with its sign
pub length-signed : (z : ℤ) → length (signed_metres z) ≡ length (minus_text z) + length (metres (nat_abs z))
length-signed z = ap length (sym (signed_apart z)) ∙ length-append (minus_text z) (metres (nat_abs z))

minus_most : (z : ℤ) → length (minus_text z) ≤ 1
minus_most (pos n) = omega arith
minus_most (negsuc n) = omega arith

pub signed_most : (z : ℤ) → nat_abs z ≤ 50000000 → length (signed_metres z) ≤ 10
signed_most z h = omega (arith, length-signed z, minus_most z, metres_most (nat_abs z) (omega arith))
