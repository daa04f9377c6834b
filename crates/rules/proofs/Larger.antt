-- std's larger and smaller of two are the rules'.
use Rattle.std.specs.Prelude.{◌≡◌, refl, ℕ, ℤ, pos, negsuc, Bool, true, false, cond, not, int_lt, leb, ltb}
use Rattle.std.proofs.Common.{ap, ◌∙◌, arith}
use Rattle.std.specs.Int.{int_max, int_min}
use Rattle.std.specs.Int.Signed.{le_z}
use Rattle.rules.specs.Grid.{max_z, min_z}

either : (b : Bool) (x y : ℤ) → cond b x y ≡ cond (not b) y x
either true x y = refl
either false x y = refl

or_not : (m n : ℕ) → not (ltb n m) ≡ leb m n
or_not m n = grind arith

unless_below : (a b : ℤ) → not (int_lt b a) ≡ le_z a b
unless_below (pos m) (pos n) = or_not m n
unless_below (pos m) (negsuc n) = refl
unless_below (negsuc m) (pos n) = refl
unless_below (negsuc m) (negsuc n) = or_not n m

pub larger : (a b : ℤ) → int_max a b ≡ max_z a b
larger a b = either (int_lt b a) a b ∙ ap (λ (c : Bool). cond c b a) (unless_below a b)

pub smaller : (a b : ℤ) → int_min a b ≡ min_z a b
smaller a b = either (int_lt b a) b a ∙ ap (λ (c : Bool). cond c a b) (unless_below a b)
