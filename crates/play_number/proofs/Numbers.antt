-- The player's number, as the code comes to it.
use Prim.Native.Nat.{ℕ, ◌≤◌, ◌<◌}
use mathlib.Core.Path.{◌≡◌, sym, ap, ◌∙◌}
use mathlib.Core.Bool.{Bool, true, false, cond, ◌&&◌}
use mathlib.Core.List.{List}
use lib.Dec.{leb}
use lib.ListN.{length}
use borrow.Author.Tests.{le-leb, lt-leb}
use Rattle.rules.specs.declared.Card.{Card}
use Rattle.rules.specs.declared.refusals.Refusal.{Refusal}
use Rattle.rules.specs.Refusals.{refusal_number}
use Rattle.rules.specs.Site.{first_refusal}
use Rattle.rules.specs.Sheet.{card_in}
use Rattle.rules.specs.Play.{own_number, play_number}
use Rattle.laws.specs.Refusing.{number-ne0}
use Rattle.laws.specs.Outcomes.{first_refused, first_passed}

-- columns and rows do not exceed 32
abbrev pub small : Card → Bool
small c = leb c.columns 32 && leb c.rows 32

module _ (l : List ℕ) where
  pub number_long : 16659 < length l → 8 ≡ play_number l
  unfolding play_number
  number_long h = rw (lt-leb _ _ h)

  module _ (h : length l ≤ 16659) where
    looked : play_number l ≡ first_refusal (own_number l) (cond (small (card_in l)) 0 8)
    unfolding play_number
    looked = rw (le-leb _ _ h)

    pub number_own : (r : Refusal) → refusal_number r ≡ own_number l → refusal_number r ≡ play_number l
    number_own r e = e ∙ sym (looked ∙ first_refused (own_number l) _ (λ z. number-ne0 r (e ∙ z)))

    module _ (e : 0 ≡ own_number l) where
      rest : play_number l ≡ cond (small (card_in l)) 0 8
      rest = looked ∙ first_passed (own_number l) _ (sym e)

      pub number_small : small (card_in l) ≡ true → 0 ≡ play_number l
      number_small t = sym (rest ∙ ap (λ (b : Bool). cond b 0 8) t)

      pub number_large : small (card_in l) ≡ false → 8 ≡ play_number l
      number_large t = sym (rest ∙ ap (λ (b : Bool). cond b 0 8) t)
