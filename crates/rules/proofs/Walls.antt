-- A wall: what is 0 on walls (`walled`) is 0 at the last face of a row, and behind it.
use Prim.Native.Nat.{ℕ, zero, suc, ◌≤◌}
use mathlib.Core.Path.{◌≡◌, refl}
use mathlib.Core.Bool.{cond}
use lib.IntN.{ℤ, pos}
use lib.Dec.{ltb}
use borrow.Author.Tests.{le-ltb}
use Rattle.rules.specs.Step.{walled}

-- the test that it makes
pub wall : (k m : ℕ) (x : ℤ) → m ≤ k → cond (ltb k m) x (pos 0) ≡ pos 0
wall k m x h = rw (le-ltb k m h)

pub on_wall : (n : ℕ) (f : ℕ → ℤ) (k : ℕ) → n ≤ k → walled n f k ≡ pos 0
unfolding walled
on_wall n f zero h = refl
on_wall n f (suc k) h = wall (suc k) n (f k) h
