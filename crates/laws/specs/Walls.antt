-- What is 0 on walls and f between them (`walled`): on a wall, inside, what holds of it everywhere, two of them alike, and one the mirror image of the other.
use Prim.Native.Nat.{ℕ, zero, suc, ◌+◌, ◌<◌}
use Rattle.std.specs.Prelude.{◌≡◌, refl, Bool, cond, ℤ, pos, neg_ℤ, T, ltb}
use Rattle.std.proofs.Common.{sym, ap, ◌∙◌, arith, ltb→lt, lt→ltb}
use Rattle.std.proofs.Math.Bool.{true, false}
use Rattle.rules.specs.Step.{walled}
use Rattle.laws.specs.Tests.{true_of, cond_cong}
-- on a wall
pub use Rattle.rules.proofs.Walls.{wall, on_wall}

-- the test that it makes
pub inside : (k m : ℕ) (x : ℤ) → k < m → cond (ltb k m) x (pos 0) ≡ x
inside k m x h = rw (true_of (ltb k m) (lt→ltb k m h))

module _ (n : ℕ) (f : ℕ → ℤ) where
  pub on_inner : (k : ℕ) → suc k < n → walled n f (suc k) ≡ f k
  unfolding walled
  on_inner k h = inside (suc k) n (f k) h

  -- what holds of 0, and of f between the walls
  pub behind_has : (P : ℤ → Type 0) → P (pos 0) → (k : ℕ) → (suc k < n → P (f k)) → P (walled n f (suc k))
  unfolding walled
  behind_has P z k h = go (ltb (suc k) n) (λ t. h (ltb→lt (suc k) n t))
    where
      go : (b : Bool) → (T b → P (f k)) → P (cond b (f k) (pos 0))
      go true p = p tt
      go false p = z

  pub everywhere : (P : ℕ → ℤ → Type 0) → ((k : ℕ) → P k (pos 0)) → ((k : ℕ) → suc k < n → P (suc k) (f k)) → (k : ℕ) → P k (walled n f k)
  unfolding walled
  everywhere P z h zero = z zero
  everywhere P z h (suc k) = behind_has (P (suc k)) (z (suc k)) k (h k)

-- of two that agree between the walls
pub walled_same : (n : ℕ) (f f' : ℕ → ℤ) → ((k : ℕ) → suc k < n → f' k ≡ f k) → (k : ℕ) → walled n f' k ≡ walled n f k
unfolding walled
walled_same n f f' h zero = refl
walled_same n f f' h (suc k) = cond_cong (ltb (suc k) n) (f' k) (f k) (pos 0) (λ t. h k (ltb→lt (suc k) n t))

-- of two of which one is the other turned end for end, negated
pub walled_mirror : (n : ℕ) (f f' : ℕ → ℤ) → ((k k' : ℕ) → suc (suc (k + k')) ≡ n → f' k ≡ neg_ℤ (f k'))
    → (i i' : ℕ) → i + i' ≡ n → walled n f' i ≡ neg_ℤ (walled n f i')
unfolding walled
walled_mirror n f f' h zero i' e = ap neg_ℤ (sym (on_wall n f i' (omega arith)))
walled_mirror n f f' h (suc k) zero e = on_wall n f' (suc k) (omega arith)
walled_mirror n f f' h (suc k) (suc k') e =
    on_inner n f' k (omega arith) ∙ h k k' (omega arith) ∙ ap neg_ℤ (sym (on_inner n f k' (omega arith)))
