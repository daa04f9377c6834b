-- The reader's numbers and outcomes, as its functions come to them.
use Prim.Native.Nat.{ℕ, ◌+◌, ◌*◌}
use mathlib.Core.Path.{◌≡◌, sym, ap₂, ◌∙◌, subst}
use mathlib.Core.Bool.{true, false}
use mathlib.Core.List.{List}
use native.Mathlib.Omega.{arith}
use lib.IntN.{ℤ}
use lib.ListN.{length, drop}
use Rattle.std.specs.Prelude.{Ok, Err}
use Rattle.rules.specs.declared.Card.{Card}
use Rattle.rules.specs.declared.Heard.{Heard}
use Rattle.rules.specs.declared.refusals.Refusal.{Refusal}
use Rattle.rules.specs.Refusals.{refusal_number}
use Rattle.rules.specs.Answers.{heard_of}
use Rattle.rules.specs.Site.{cells, state_length, first_of}
use Rattle.rules.specs.Sheet.{words_in, card_in, ground_in, state_in, read_number, no_card}
use Rattle.rules.specs.Calls.{read_answer, read_ground_list, read_state_list}
use Rattle.rules.specs.PublicContracts.{ReadContract}
use Rattle.laws.specs.Outcomes.{if_done_lem, if_refused}
use Rattle.laws.specs.Refusing.{number-ne0}
use Rattle.laws.specs.Sheets.{Sizes, size_words, size_facts, ground_there, state_there, read_number_is}
use Rattle.sheet.specs.Front.{Front}
use Rattle.sheet_reader.specs.Values.{sheet_values_fit}

-- ---- where the values decide

module _ (l : List ℕ) (n m : ℕ) (f : Front l n m) where
  pub number_3 : sheet_values_fit l ≡ false → 3 ≡ read_number l n m
  unfolding first_of sheet_values_fit
  number_3 v = rw (read_number_is l n m, f.head, f.card, f.lengths, v)

  pub number_0 : sheet_values_fit l ≡ true → 0 ≡ read_number l n m
  unfolding first_of sheet_values_fit
  number_0 v = rw (read_number_is l n m, f.head, f.card, f.lengths, v)

  sizes : Sizes l n m
  sizes = size_facts l n m f.lengths

  -- the lengths are those that the header asks for
  pub front_own : Front l (cells (card_in l)) (state_length (card_in l))
  front_own = subst (Front l _) sizes.state (subst (λ (k : ℕ). Front l k m) sizes.land f)

  pub number_own : read_number l (cells (card_in l)) (state_length (card_in l)) ≡ read_number l n m
  number_own = sym (ap₂ (read_number l) sizes.land sizes.state)

  -- how many bytes there are, and which words
  pub long : length l ≡ 19 + 4 * n + 4 * m
  long = let s = sizes in s.sized ∙ size_words (card_in l) ∙ omega arith

  pub ground_is : words_in n (drop 19 l) ≡ ground_in l
  ground_is = ground_there l sizes.land

  pub state_is : words_in m (drop (19 + 4 * n) l) ≡ state_in l
  state_is = state_there l sizes.land sizes.state

-- ---- the outcome

module _ (l : List ℕ) (land state : List ℤ) where
  abbrev read : ℕ
  read = read_number l (length land) (length state)

  pub refused : (r : Refusal) {heard : Heard} → heard ≡ heard_of (Err r) → refusal_number r ≡ read → ReadContract l land state heard land state
  unfolding read_answer read_ground_list read_state_list
  refused r same e =
      let k : read ≡ 0 → ⊥ = λ z. number-ne0 r (e ∙ z) in
      record {
        answer = same ∙ (λ i. record { number = e i; card = sym (if_refused read (card_in l) no_card k) i });
        ground_exit = sym (if_refused read (ground_in l) land k);
        state_exit = sym (if_refused read (state_in l) state k);
      }

  pub done : (c : Card) (g s : List ℤ) → 0 ≡ read → c ≡ card_in l → g ≡ ground_in l → s ≡ state_in l → ReadContract l land state (heard_of (Ok c)) g s
  unfolding read_answer read_ground_list read_state_list
  done c g s e p q w = record {
    answer = λ i. record { number = e i; card = (p ∙ sym (if_done_lem read (card_in l) no_card (sym e))) i };
    ground_exit = q ∙ sym (if_done_lem read (ground_in l) land (sym e));
    state_exit = w ∙ sym (if_done_lem read (state_in l) state (sym e));
  }
