-- A call's number and what it leaves: where the number is 0, and where it refuses.
use Prim.Native.Nat.{ℕ, zero, suc}
use Rattle.std.specs.Prelude.{◌≡◌}
use Rattle.std.proofs.Math.Path.{refl}
use Rattle.std.proofs.Common.{suc-ne-zero}
use Rattle.rules.specs.Site.{first_refusal, if_done}

-- the first number refuses; it does not, and the second counts; neither does
pub first_refused : (k n : ℕ) → (k ≡ 0 → ⊥) → first_refusal k n ≡ k
unfolding first_refusal
first_refused zero n h = absurd (h refl)
first_refused (suc k) n h = refl

pub first_passed : (k n : ℕ) → k ≡ 0 → first_refusal k n ≡ n
unfolding first_refusal
first_passed k n e = rw e

-- and the second counts only where the first does not refuse
pub first_same : (k : ℕ) {n m : ℕ} → (k ≡ 0 → n ≡ m) → first_refusal k n ≡ first_refusal k m
unfolding first_refusal
first_same zero h = h refl
first_same (suc k) h = refl

pub both_passed : (k n : ℕ) → first_refusal k n ≡ 0 → (k ≡ 0) × (n ≡ 0)
unfolding first_refusal
both_passed zero n e = (refl, e)
both_passed (suc k) n e = absurd (suc-ne-zero k e)

module _ {A : Type 0} where
  pub if_done_lem : (k : ℕ) (done refused : A) → k ≡ 0 → if_done k done refused ≡ done
  unfolding if_done
  if_done_lem k done refused e = rw e

  pub if_refused : (k : ℕ) (done refused : A) → (k ≡ 0 → ⊥) → if_done k done refused ≡ refused
  unfolding if_done
  if_refused zero done refused h = absurd (h refl)
  if_refused (suc k) done refused h = refl

  -- what is left where the number is 0 counts only there
  pub if_same : (k : ℕ) {done done' : A} (refused : A) → (k ≡ 0 → done ≡ done') → if_done k done refused ≡ if_done k done' refused
  unfolding if_done
  if_same zero refused h = h refl
  if_same (suc k) refused h = refl

  -- what holds of both holds of what is left
  pub if_either : (P : A → Type 0) (k : ℕ) (done refused : A) → (k ≡ 0 → P done) → P refused → P (if_done k done refused)
  unfolding if_done
  if_either P zero done refused f p = f refl
  if_either P (suc k) done refused f p = p
