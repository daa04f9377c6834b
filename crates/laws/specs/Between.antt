-- A whole number between two ends, as the code tests it, and the same said of its size.
use Rattle.std.specs.Prelude.{ℕ, suc, ◌≡◌, refl, Bool, ◌&&◌, ℤ, pos, negsuc, nat_abs, leb}
use Rattle.std.proofs.Common.{sym, ◌∙◌}
use Rattle.std.proofs.Math.Bool.{and-true}
use Rattle.std.specs.Int.Signed.{le_z}
use Rattle.std.proofs.Math.Dec.{leb-suc-suc}

abbrev pub between : (low high : ℤ) → ℤ → Bool
between low high z = le_z low z && le_z z high

-- between −(v + 1) and v + 1
pub size_between : (v : ℕ) (z : ℤ) → between (negsuc v) (pos (suc v)) z ≡ leb (nat_abs z) (suc v)
size_between v (pos n) = refl
size_between v (negsuc n) = and-true (leb n v) ∙ sym (leb-suc-suc n v)
