-- What a face counts in a cell's step limit: its speed where it is said to point out of the cell, else nothing.
use Rattle.std.specs.Prelude.{ℕ, Bool, cond, ℤ, nat_abs}

unfoldable pub counts : (out : Bool) (v : ℤ) → ℕ
counts out v = cond out (nat_abs v) 0
