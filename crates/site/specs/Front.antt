-- What a call says before it looks at any value, what the values then say, and how the two make the number of the checks.
use Rattle.std.specs.Prelude.{ℕ, ◌≡◌, Bool, ◌&&◌, List, ℤ}
use Rattle.std.proofs.Math.Bool.{true}
use Rattle.rules.specs.declared.Card.{Card}
use Rattle.rules.specs.Site.{card_fits, lengths_fit, values_fit, read_ground, read_state, first_of, check_also}
use Rattle.laws.specs.Tests.{and_right, to_T, true_of}
use Rattle.laws.specs.Checks.{apart}
use Rattle.laws.specs.Facts.{Sized}

-- 1 or 2, with what it asks besides for each, and 0 where the values decide
unfoldable pub front_also : (one two : Bool) → Card → (land state : List ℤ) → ℕ
front_also one two c g s = first_of (one && card_fits c) (two && lengths_fit c g s) true

-- 3, with what it asks besides, or 0
unfoldable pub values_also : (three : Bool) → Card → (land state : List ℤ) → ℕ
values_also three c g s = first_of true true (three && values_fit c (read_ground c g) (read_state c s))

-- where the front gives 0, card and lengths have passed, and the values give the number
module _ (one two : Bool) (c : Card) (g s : List ℤ) (e : front_also one two c g s ≡ 0) where
  pub front_sized : Sized c g s
  unfolding front_also
  front_sized =
      let p = apart (one && card_fits c) (two && lengths_fit c g s) true e in
      record { card = true_of (card_fits c) (and_right one (card_fits c) (to_T p.card)); lengths = true_of (lengths_fit c g s) (and_right two (lengths_fit c g s) (to_T p.lengths)) }

  pub front_passed : (three : Bool) → values_also three c g s ≡ check_also one two three c g s
  unfolding front_also values_also check_also
  front_passed three = let p = apart (one && card_fits c) (two && lengths_fit c g s) true e in rw (p.card, p.lengths)
