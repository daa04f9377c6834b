-- Pairs of places, one pair in each stride, that lie in a list; and how long a state is, counted as its walls stand in it.
use Rattle.std.specs.Prelude.{ℕ, ◌+◌, ◌*◌, ◌≤◌, ◌<◌, ◌≡◌, true}
use Rattle.std.proofs.Common.{suc-mul, mul-le-mul, le_refl, arith}
use Rattle.rules.specs.declared.Card.{Card}
use Rattle.rules.specs.Site.{card_fits, state_length}
use Rattle.laws.specs.Facts.{card_facts}

-- n places from `first` on, and n from `second` on, each a stride from the next, in a list of `size` words
pub record Strides (size first second stride n : ℕ) : Type 0 where
  pub one : (k : ℕ) → k < n → first + k * stride < size
  pub two : (k : ℕ) → k < n → second + k * stride < size

-- the last of them, one stride before the end of the n strides, lies in it
pub strides : {size first second stride n : ℕ} → first + n * stride < size + stride → second + n * stride < size + stride → Strides size first second stride n
strides {stride = d} {n} a b =
    record { one = λ k h. omega (arith, mul-le-mul h (le_refl d), suc-mul k d); two = λ k h. omega (arith, mul-le-mul h (le_refl d), suc-mul k d) }

-- heights and eastward faces, the northward faces above the first row, and those of the first
pub state_words : (c : Card) → state_length c ≡ c.rows * c.columns + c.rows * (c.columns + 1) + c.rows * c.columns + c.columns
unfolding state_length
state_words c = omega (arith, suc-mul c.rows c.columns)

-- there is a row
pub a_row : (c : Card) → card_fits c ≡ true → (n : ℕ) → 1 * n ≤ c.rows * n
a_row c h n = mul-le-mul (card_facts c h).rows_low (le_refl n)
