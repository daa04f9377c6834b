-- A value that a test lets through: some where it passes, none where it does not.
use Rattle.std.specs.Prelude.{◌≡◌, refl, Bool, true, false, cond, Some, None}
use Rattle.std.proofs.Common.{ap}

module _ {A : Type 0} where
  pub let_through : (t : Bool) (x : A) {y : A} → t ≡ true → y ≡ x → Some y ≡ cond t (Some x) None
  let_through true x e f = ap Some f
  let_through false x e f = cc

  pub kept_back : (t : Bool) (x : A) → t ≡ false → None ≡ cond t (Some x) None
  kept_back true x e = cc
  kept_back false x e = refl

  -- what is known of a test by what it let through
  pub has_passed : (t : Bool) (x : A) {y : A} → Some y ≡ cond t (Some x) None → t ≡ true
  has_passed true x e = refl
  has_passed false x e = cc

  pub is_that : (t : Bool) (x : A) {y : A} → Some y ≡ cond t (Some x) None → y ≡ x
  is_that true x e = cc
  is_that false x e = cc

  pub has_failed : (t : Bool) (x : A) → None ≡ cond t (Some x) None → t ≡ false
  has_failed true x e = cc
  has_failed false x e = refl
