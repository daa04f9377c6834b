-- The numbers of the checks taken apart and put together: 0 exactly where every test passes.
use Rattle.std.specs.Prelude.{ℕ, ◌≤◌, ◌≡◌, refl, Bool, true, false, cond, ◌&&◌, T}
use Rattle.std.proofs.Common.{sym, ap, ap₂, suc-ne-zero, arith}
use Rattle.rules.specs.Site.{first_of}
use Rattle.rules.specs.Step.{answer}

-- the three checks, apart and together
pub record Passed (a l v : Bool) : Type 0 where
  pub card : a ≡ true
  pub lengths : l ≡ true
  pub values : v ≡ true

pub apart : (a l v : Bool) → first_of a l v ≡ 0 → Passed a l v
unfolding first_of
apart false l v e = absurd (suc-ne-zero 0 e)
apart true false v e = absurd (suc-ne-zero 1 e)
apart true true false e = absurd (suc-ne-zero 2 e)
apart true true true e = record { card = refl; lengths = refl; values = refl }

pub together : {a l v : Bool} → Passed a l v → first_of a l v ≡ 0
unfolding first_of
together p = rw (p.card, p.lengths, p.values)

-- they give no number above 3
pub at_most_3 : (a l v : Bool) → first_of a l v ≤ 3
unfolding first_of
at_most_3 false l v = omega arith
at_most_3 true false v = omega arith
at_most_3 true true false = omega arith
at_most_3 true true true = omega arith

-- one after the other, as a function looks for them
pub not_card : (l v : Bool) {a : Bool} → a ≡ false → 1 ≡ first_of a l v
unfolding first_of
not_card l v e = sym (ap (λ (t : Bool). first_of t l v) e)

pub not_lengths : (v : Bool) {a l : Bool} → a ≡ true → l ≡ false → 2 ≡ first_of a l v
unfolding first_of
not_lengths v e f = sym (ap₂ (λ (s t : Bool). first_of s t v) e f)

pub by_values : (v : Bool) {a l : Bool} → a ≡ true → l ≡ true → first_of a l v ≡ cond v 0 3
unfolding first_of
by_values true e f = ap₂ (λ (s t : Bool). first_of s t true) e f
by_values false e f = ap₂ (λ (s t : Bool). first_of s t false) e f

-- a test for 2 that is made only where the card passes, since only then it can be made
pub after_card : (one card two lengths values : Bool) → first_of (one && card) ((card && two) && lengths) values ≡ first_of (one && card) (two && lengths) values
unfolding first_of
after_card true true two lengths values = refl
after_card true false two lengths values = refl
after_card false card two lengths values = refl

-- the three, where the first two are looked at before the third
pub by_front : (a l v : Bool) (k : ℕ) → k ≡ first_of a l true → (k ≡ 0 → ⊥) → first_of a l v ≡ k
unfolding first_of
by_front false l v k e h = sym e
by_front true false v k e h = sym e
by_front true true v k e h = absurd (h e)

-- ---- the three tests of a step

pub record Accepted (l h v : Bool) : Type 0 where
  pub limit : T l
  pub heights : T h
  pub speeds : T v

pub accepted : (l h v : Bool) → answer l h v ≡ 0 → Accepted l h v
unfolding answer
accepted false h v e = absurd (suc-ne-zero 3 e)
accepted true false v e = absurd (suc-ne-zero 4 e)
accepted true true false e = absurd (suc-ne-zero 6 e)
accepted true true true e = record { limit = tt; heights = tt; speeds = tt }
