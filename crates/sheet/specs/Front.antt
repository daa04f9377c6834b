-- The number that a sheet's reader gives before it looks at any value, and how it stands to the reader's number.
use Rattle.std.specs.Prelude.{ℕ, ◌≡◌, Bool, List}
use Rattle.std.proofs.Math.Path.{refl, sym}
use Rattle.std.proofs.Common.{◌∙◌}
use Rattle.std.proofs.Math.Bool.{true, false, cond}
use Rattle.rules.specs.Site.{card_fits, first_of}
use Rattle.rules.specs.Sheet.{card_in, head_fits, sheet_lengths_fit, read_number}
use Rattle.laws.specs.Checks.{apart, by_front}
use Rattle.laws.specs.Sheets.{passed, read_number_is}

-- 9, 1 or 2, and 0 where the values decide
unfoldable pub front_number : List ℕ → (n m : ℕ) → ℕ
front_number l n m = cond (head_fits l) (first_of (card_fits (card_in l)) (sheet_lengths_fit l n m) true) 9

module _ (l : List ℕ) (n m : ℕ) where
  pub front_9 : head_fits l ≡ false → 9 ≡ front_number l n m
  unfolding front_number
  front_9 h = rw h

  module _ (h : head_fits l ≡ true) where
    pub front_1 : card_fits (card_in l) ≡ false → 1 ≡ front_number l n m
    unfolding front_number first_of
    front_1 k = rw (h, k)

    module _ (k : card_fits (card_in l) ≡ true) where
      pub front_2 : sheet_lengths_fit l n m ≡ false → 2 ≡ front_number l n m
      unfolding front_number first_of
      front_2 j = rw (h, k, j)

      pub front_0 : sheet_lengths_fit l n m ≡ true → 0 ≡ front_number l n m
      unfolding front_number first_of
      front_0 j = rw (h, k, j)

  -- where it is 0, all that comes before the values has passed; where it is not, it is the reader's number
  pub record Front : Type 0 where
    pub head : head_fits l ≡ true
    pub card : card_fits (card_in l) ≡ true
    pub lengths : sheet_lengths_fit l n m ≡ true

  pub front_facts : front_number l n m ≡ 0 → Front
  unfolding front_number
  front_facts e =
      let h = passed (head_fits l) (first_of (card_fits (card_in l)) (sheet_lengths_fit l n m) true) 8 e in
      let p = apart (card_fits (card_in l)) (sheet_lengths_fit l n m) true h.1 in
      record { head = h.0; card = p.card; lengths = p.lengths }

  pub front_refused : (front_number l n m ≡ 0 → ⊥) → front_number l n m ≡ read_number l n m
  unfolding front_number first_of
  front_refused h = go (head_fits l) (card_fits (card_in l)) (sheet_lengths_fit l n m) _ h ∙ sym (read_number_is l n m)
    where
      go : (a b d v : Bool) → (cond a (first_of b d true) 9 ≡ 0 → ⊥) → cond a (first_of b d true) 9 ≡ cond a (first_of b d v) 9
      go false b d v h = refl
      go true b d v h = sym (by_front b d v (first_of b d true) refl h)

  pub front_told : {k : ℕ} → (k ≡ 0 → ⊥) → k ≡ front_number l n m → k ≡ read_number l n m
  front_told h e = e ∙ front_refused (λ z. h (e ∙ z))
