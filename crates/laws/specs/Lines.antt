-- The faces in a line from wall to wall, by the tests that the code makes at face k: what is 0 on both walls and f between them, as transfers and
-- velocities are, and what stands at the face before.
use Rattle.std.specs.Prelude.{ℕ, zero, suc, ◌-◌, ◌≤◌, ◌<◌, ◌≡◌, refl, Bool, true, false, cond, ◌||◌, ℤ, pos, eqb, ltb}
use Rattle.std.proofs.Common.{◌∙◌, true≢false, zero-lt-suc, arith, lt-ltb, le-ltb, eqb-true, ne_eqb}
use Rattle.std.proofs.lemmas.Bool.{eqb-false}
use Rattle.rules.specs.Step.{walled, before}

-- face k is a wall of a line that runs from face 0 to face n
abbrev pub is_end : ℕ → ℕ → Bool
is_end n k = eqb k 0 || eqb k n

end_suc : (n k : ℕ) → is_end n (suc k) ≡ eqb (suc k) n
end_suc n k = rw (ne_eqb (suc k) 0 (λ e. omega arith))

pub record Inside (n k : ℕ) : Type 0 where
  pub low : 0 < k
  pub other : (k ≡ n) → ⊥

pub no_end : (n k : ℕ) → is_end n k ≡ false → Inside n k
no_end n zero e = absurd (true≢false e)
no_end n (suc k) e = record { low = omega arith; other = eqb-false (suc k) n (rw end_suc at e) }

-- up to the end, the test for a face before it is the test for the end the other way round
until : (n k : ℕ) (x y : ℤ) → k ≤ n → cond (ltb k n) x y ≡ cond (eqb k n) y x
until n k x y h = go (eqb k n) refl
  where
    go : (t : Bool) → eqb k n ≡ t → cond (ltb k n) x y ≡ cond t y x
    go true e = let b : n ≤ k = omega (arith, eqb-true k n e) in rw (le-ltb k n b)
    go false e = let other : (k ≡ n) → ⊥ = eqb-false k n e in let b : k < n = omega arith in rw (lt-ltb k n b)

-- 0 on both walls, and f between them
pub walled_is : (n : ℕ) (f : ℕ → ℤ) (k : ℕ) → k ≤ n → walled n f k ≡ cond (is_end n k) (pos 0) (f (k - 1))
unfolding walled
walled_is n f zero h = refl
walled_is n f (suc k) h =
    let e : suc k - 1 ≡ k = omega arith in
    until n (suc k) (f k) (pos 0) h ∙ rw (end_suc, e)

-- what stands at the face before; the first has none
pub before_is : (f : ℕ → ℤ) (k : ℕ) → before f k ≡ cond (ltb 0 k) (f (k - 1)) (pos 0)
unfolding before
before_is f zero = refl
before_is f (suc k) = let e : suc k - 1 ≡ k = omega arith in rw (lt-ltb 0 (suc k) (zero-lt-suc k), e)
