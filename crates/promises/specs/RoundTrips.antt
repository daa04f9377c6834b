-- The sheet there and back by the two calls: a sheet that was read writes back as the same bytes, and a written sheet reads back as the same card, ground and state.
-- Every input has its outcome here. `round_trips` has the two functions that make these calls; their contracts are the records below.
use Rattle.std.specs.Prelude.{ℕ, ◌≤◌, ◌≡◌, ◌&&◌, ℤ, leb, eqb}
use Rattle.std.proofs.Math.Path.{sym, ap, ap₂, subst⁻¹}
use Rattle.std.proofs.Common.{◌∙◌, leb-true}
use Rattle.std.proofs.Math.Bool.{cond}
use mathlib.Core.List.{List, ◌++◌}
use Rattle.std.proofs.Math.ListN.{length, take, drop}
use Rattle.std.proofs.Math.Seq.{take_at}
use Rattle.rules.specs.declared.Card.{Card}
use Rattle.rules.specs.declared.Heard.{Heard}
use Rattle.rules.specs.declared.Wrote.{Wrote}
use Rattle.rules.specs.Site.{check, first_refusal, if_done}
use Rattle.rules.specs.Sheet.{Bytes, sheet_size, sheet_of, card_in, ground_in, state_in, read_number, no_card}
use Rattle.rules.specs.Calls.{read_answer, read_ground_list, read_state_list, write_number, write_answer, write_bytes}
use Rattle.rules.specs.PublicContracts.{ReadContract, WriteContract}
use Rattle.laws.specs.Facts.{check_facts}
use Rattle.laws.specs.Outcomes.{first_refused, first_passed, both_passed, if_done_lem, if_refused}
use Rattle.laws.specs.Sheets.{passed}
use Rattle.promises.specs.ThereAndBack.{card_back, ground_back_lem, state_back_lem, number_back, sheet_size_lem}
use Rattle.promises.specs.Sheets.{IsSheetOf, read_is_sheet}

-- ---- read, then write

-- the reader's number, and then 8 where the sheet is longer than the bytes that the writer is lent
unfoldable pub bytes_back_number : (sheet : List ℕ) (land state : List ℤ) (room : ℕ) → ℕ
bytes_back_number l g s room = first_refusal (read_number l (length g) (length s)) (cond (leb (length l) room) 0 8)

-- done: the same bytes stand in front of those that the writer was lent; refused: size 0, those bytes as lent. The other lists are as the reader leaves them.
pub record BytesBack (sheet : List ℕ) (land state : List ℤ) (bytes : List ℕ) (wrote : Wrote) (ground_at_exit state_at_exit : List ℤ) (bytes_at_exit : List ℕ) : Type 0 where
  pub answer : wrote ≡ record { number = bytes_back_number sheet land state (length bytes); size = if_done (bytes_back_number sheet land state (length bytes)) (length sheet) 0 }
  pub bytes_exit : bytes_at_exit ≡ if_done (bytes_back_number sheet land state (length bytes)) (sheet ++ drop (length sheet) bytes) bytes
  pub ground_exit : ground_at_exit ≡ read_ground_list sheet land state
  pub state_exit : state_at_exit ≡ read_state_list sheet land state

module _ (l : List ℕ) (land state : List ℤ) (bytes : List ℕ) (h : Heard) (g s : List ℤ) (r : ReadContract l land state h g s) where
  abbrev back : ℕ
  back = bytes_back_number l land state (length bytes)

  number_read : h.number ≡ read_number l (length land) (length state)
  unfolding read_answer
  number_read = ap (λ (x : Heard). x.number) r.answer

  -- a refused sheet is not written
  pub not_read : (h.number ≡ 0 → ⊥) → BytesBack l land state bytes (record { number = h.number; size = 0 }) g s bytes
  unfolding bytes_back_number
  not_read n =
      let k : back ≡ h.number = first_refused _ _ (λ z. n (number_read ∙ z)) ∙ sym number_read in
      let k₀ : back ≡ 0 → ⊥ = λ z. n (sym k ∙ z) in
      record {
        answer = λ i. record { number = sym k i; size = sym (if_refused back (length l) 0 k₀) i };
        bytes_exit = sym (if_refused back (l ++ drop (length l) bytes) bytes k₀);
        ground_exit = r.ground_exit;
        state_exit = r.state_exit;
      }

  module _ (b : Bytes l) (z : h.number ≡ 0) where
    done : read_number l (length land) (length state) ≡ 0
    done = sym number_read ∙ z

    -- what was read is the site whose sheet these bytes are
    is_sheet : IsSheetOf l h.card g s
    unfolding read_answer read_ground_list read_state_list
    is_sheet =
        let k = read_number l (length land) (length state) in
        let c : h.card ≡ card_in l = ap (λ (x : Heard). x.card) r.answer ∙ if_done_lem k (card_in l) no_card done in
        let p : g ≡ ground_in l = r.ground_exit ∙ if_done_lem k (ground_in l) land done in
        let q : s ≡ state_in l = r.state_exit ∙ if_done_lem k (state_in l) state done in
        let i = read_is_sheet l (length land) (length state) b done in
        record { checked = cc (c, p, q, i.checked); bytes = cc (c, p, q, i.bytes) }

    sized : sheet_size h.card ≡ length l
    sized = sym (sheet_size_lem h.card g s (check_facts h.card g s is_sheet.checked)) ∙ ap length is_sheet.bytes

    written : write_number h.card g s (length bytes) ≡ back
    unfolding write_number bytes_back_number
    written = first_passed _ _ is_sheet.checked ∙ ap (λ (n : ℕ). cond (leb n (length bytes)) 0 8) sized ∙ sym (first_passed _ _ done)

    pub read_then_write_lem : (w : Wrote) (o : List ℕ) → WriteContract h.card g s bytes w o → BytesBack l land state bytes w g s o
    unfolding write_answer write_bytes
    read_then_write_lem w o q = record {
      answer = q.answer ∙ (λ i. record { number = written i; size = if_done (written i) (sized i) 0 });
      bytes_exit = q.bytes_exit ∙ cc (written, sized, is_sheet.bytes);
      ground_exit = r.ground_exit;
      state_exit = r.state_exit;
    }

-- ---- write, then read

-- the writer's number, and then 2 where the lists that the reader is lent are not as long as those that were written
unfoldable pub site_back_number : Card → (land state : List ℤ) (room n m : ℕ) → ℕ
site_back_number c g s room n m = first_refusal (write_number c g s room) (cond (eqb n (length g) && eqb m (length s)) 0 2)

-- done: the same card, and the same ground and state in the lists that the reader was lent; refused: an all-zero card, those lists as lent. The bytes are as the writer leaves them.
pub record SiteBack (c : Card) (land state : List ℤ) (bytes : List ℕ) (ground_back state_back : List ℤ) (heard : Heard) (bytes_at_exit : List ℕ) (ground_at_exit state_at_exit : List ℤ) : Type 0 where
  pub answer :
      heard
      ≡ record {
        number = site_back_number c land state (length bytes) (length ground_back) (length state_back);
        card = if_done (site_back_number c land state (length bytes) (length ground_back) (length state_back)) c no_card;
      }
  pub ground_exit : ground_at_exit ≡ if_done (site_back_number c land state (length bytes) (length ground_back) (length state_back)) land ground_back
  pub state_exit : state_at_exit ≡ if_done (site_back_number c land state (length bytes) (length ground_back) (length state_back)) state state_back
  pub bytes_exit : bytes_at_exit ≡ write_bytes c land state bytes

module _ (c : Card) (g s : List ℤ) (bytes : List ℕ) (w : Wrote) (o : List ℕ) (q : WriteContract c g s bytes w o) (land state : List ℤ) where
  abbrev again : ℕ
  again = site_back_number c g s (length bytes) (length land) (length state)

  number_written : w.number ≡ write_number c g s (length bytes)
  unfolding write_answer
  number_written = ap (λ (x : Wrote). x.number) q.answer

  -- a refused site is not read
  pub not_written : (k : Card) → k ≡ no_card → (w.number ≡ 0 → ⊥) → SiteBack c g s bytes land state (record { number = w.number; card = k }) o land state
  unfolding site_back_number
  not_written k p n =
      let e : again ≡ w.number = first_refused _ _ (λ z. n (number_written ∙ z)) ∙ sym number_written in
      let e₀ : again ≡ 0 → ⊥ = λ z. n (sym e ∙ z) in
      record {
        answer = λ i. record { number = sym e i; card = (p ∙ sym (if_refused again c no_card e₀)) i };
        ground_exit = sym (if_refused again g land e₀);
        state_exit = sym (if_refused again s state e₀);
        bytes_exit = q.bytes_exit;
      }

  module _ (z : w.number ≡ 0) where
    wrote : write_number c g s (length bytes) ≡ 0
    wrote = sym number_written ∙ z

    checked : check c g s ≡ 0
    unfolding write_number
    checked = (both_passed (check c g s) _ wrote).0

    size_written : w.size ≡ sheet_size c
    unfolding write_answer
    size_written = ap (λ (x : Wrote). x.size) q.answer ∙ if_done_lem _ (sheet_size c) 0 wrote

    pub size_room : w.size ≤ length bytes
    unfolding write_number
    size_room =
        let f = (passed (leb (sheet_size c) (length bytes)) 0 7 (both_passed (check c g s) _ wrote).1).0 in
        subst⁻¹ (λ (n : ℕ). n ≤ length bytes) size_written (leb-true (sheet_size c) (length bytes) f)

    -- the bytes that were written are the site's sheet
    is_written : take w.size o ≡ sheet_of c g s
    unfolding write_bytes
    is_written =
        ap₂ (λ (n : ℕ) (x : List ℕ). take n x) size_written (q.bytes_exit ∙ if_done_lem _ (sheet_of c g s ++ drop (sheet_size c) bytes) bytes wrote)
        ∙ take_at (sheet_of c g s) (drop (sheet_size c) bytes) (sheet_size c) (sheet_size_lem c g s (check_facts c g s checked))

    heard_back : read_number (take w.size o) (length land) (length state) ≡ again
    unfolding site_back_number
    heard_back = ap (λ (l : List ℕ). read_number l (length land) (length state)) is_written ∙ number_back c g s (check_facts c g s checked) checked (length land) (length state) ∙ sym (first_passed _ _ wrote)

    pub write_then_read_lem : (h : Heard) (g' s' : List ℤ) → ReadContract (take w.size o) land state h g' s' → SiteBack c g s bytes land state h o g' s'
    unfolding read_answer read_ground_list read_state_list
    write_then_read_lem h g' s' r =
        let f = check_facts c g s checked in
        let card : card_in (take w.size o) ≡ c = ap card_in is_written ∙ card_back c g s f in
        let gr : ground_in (take w.size o) ≡ g = ap ground_in is_written ∙ ground_back_lem c g s f in
        let st : state_in (take w.size o) ≡ s = ap state_in is_written ∙ state_back_lem c g s f in
        record {
          answer = r.answer ∙ (λ i. record { number = heard_back i; card = if_done (heard_back i) (card i) no_card });
          ground_exit = r.ground_exit ∙ cc (heard_back, gr);
          state_exit = r.state_exit ∙ cc (heard_back, st);
          bytes_exit = q.bytes_exit;
        }
