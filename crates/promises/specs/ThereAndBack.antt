-- The bytes of a sheet there and back, field by field: proofs of what Sheets.antt states.
use Rattle.std.specs.Prelude.{ℕ, ◌+◌, ◌*◌, ◌-◌, ◌<◌, ◌≤◌, ◌≡◌, Bool, true, false, cond, ◌&&◌, ℤ, pos, nat_abs, ltb, get_or, take}
use Rattle.std.proofs.Math.Path.{refl, sym, ap, ap₂}
use Rattle.std.proofs.Common.{◌∙◌, length-drop, take-append-drop, drop-drop, SFits}
use mathlib.Core.List.{List, [], ◌++◌, append_assoc, append-nil}
use native.Mathlib.Omega.{arith}
use Rattle.std.proofs.Math.Dec.{eqb}
use Rattle.std.proofs.Math.ListN.{length, drop}
use Rattle.std.proofs.Math.Seq.{drop-append_seam, take_all}
use borrow.Author.Tests.{ltb-true, ltb-false, le-leb, eq-eqb}
use Rattle.std.specs.Int.{w32}
use Rattle.rules.specs.declared.Card.{Card}
use Rattle.rules.specs.Site.{cells, state_length, first_of, check}
use Rattle.rules.specs.Sheet.{Bytes, bytes_of, number_in, words_bytes, words_in, sheet_size, header, sheet_of, card_in, ground_in, state_in, head_fits, sheet_lengths_fit, read_number}
use Rattle.laws.specs.Facts.{Fits, check_sound, sound_check}
use Rattle.laws.specs.Exact.{sfits}
use Rattle.laws.specs.Bytes.{bytes_drop, number-bytes, bytes-number}
use Rattle.laws.specs.Words.{Words, length_words, words_read, words_write}
use Rattle.laws.specs.Sheets.{size_words, length_sheet, Read, read_lengths, read_number_is}

-- ---- a sheet that was read writes back

module _ (l : List ℕ) (b : Bytes l) where
  -- the k bytes from index a on, and what lies behind them
  behind : (x : List ℕ) (k a e : ℕ) → x ≡ take k (drop a l) → e ≡ a + k → x ++ drop e l ≡ drop a l
  behind x k a e p q =
      ap₂ (λ (y : List ℕ) (n : ℕ). y ++ drop n l) p q ∙ ap (λ (r : List ℕ). take k (drop a l) ++ r) (sym (drop-drop k a l)) ∙ take-append-drop k (drop a l)

  rest : (a k : ℕ) → a + k ≤ length l → k ≤ length (drop a l)
  rest a k h = rw (length-drop a l) (omega arith)

  field : (k a e : ℕ) → e ≡ a + k → e ≤ length l → bytes_of k (number_in k (drop a l)) ++ drop e l ≡ drop a l
  field k a e p h = behind _ k a e (bytes-number k (drop a l) (bytes_drop a l b) (rest a k (omega arith))) p

  words : (n a e : ℕ) → e ≡ a + 4 * n → e ≤ length l → words_bytes (words_in n (drop a l)) ++ drop e l ≡ drop a l
  words n a e p h = behind _ (4 * n) a e (words_write n (drop a l) (bytes_drop a l b) (rest a (4 * n) (omega arith))) p

  module _ (n m : ℕ) (r : Read l n m) where
    header_back : header (card_in l) ++ drop 19 l ≡ l
    unfolding header card_in
    header_back =
        let k = r.head.long in
        let e₁₇ = field 2 17 19 refl (omega arith) in
        let e₁₅ = field 2 15 17 refl (omega arith) in
        let e₁₁ = field 4 11 15 refl (omega arith) in
        let e₇ = field 4 7 11 refl (omega arith) in
        let e₆ = field 1 6 7 refl (omega arith) in
        let e₅ = field 1 5 6 refl (omega arith) in
        let e₄ : bytes_of 1 1 ++ drop 5 l ≡ drop 4 l = ap (λ (v : ℕ). bytes_of 1 v ++ drop 5 l) (sym r.head.version) ∙ field 1 4 5 refl (omega arith) in
        let e₀ : bytes_of 4 (sheet_size (card_in l)) ++ drop 4 l ≡ l =
        ap (λ (v : ℕ). bytes_of 4 v ++ drop 4 l) (sym r.sizes.sized ∙ sym r.head.named) ∙ field 4 0 4 refl (omega arith) in
        simp append_assoc (rw (e₁₇, e₁₅, e₁₁, e₇, e₆, e₅, e₄, e₀))

    words_back : words_bytes (ground_in l) ++ words_bytes (state_in l) ≡ drop 19 l
    unfolding ground_in state_in
    words_back =
        let c = card_in l in
        let e = 19 + 4 * cells c in
        let t : length l ≡ 19 + (4 * cells c + 4 * state_length c) = r.sizes.sized ∙ size_words c in
        let s : words_bytes (words_in (state_length c) (drop e l)) ≡ drop e l =
        words_write (state_length c) (drop e l) (bytes_drop e l b) (rest e (4 * state_length c) (omega arith))
        ∙ take_all (4 * state_length c) (drop e l) (rw (length-drop e l) (omega arith)) in
        ap (λ (x : List ℕ). words_bytes (words_in (cells c) (drop 19 l)) ++ x) s ∙ words (cells c) 19 e refl (omega arith)

    pub writes_back : sheet_of (card_in l) (ground_in l) (state_in l) ≡ l
    unfolding sheet_of
    writes_back = ap (λ (x : List ℕ). header (card_in l) ++ x) words_back ∙ header_back

-- and what was read passes the first three checks
pub read_checks : (l : List ℕ) (n m : ℕ) → Read l n m → check (card_in l) (ground_in l) (state_in l) ≡ 0
read_checks l n m r = sound_check (card_in l) (ground_in l) (state_in l) (record { card = r.card; lengths = read_lengths l; values = r.values })

-- ---- a written sheet reads back

-- a ground, a height or a velocity is a word
word : (z : ℤ) → nat_abs z ≤ 50000000 → SFits w32 z
word z h = sfits w32 (record { size = h }) tt

-- where the card and the values pass, the lengths decide
by_lengths : (b : Bool) → first_of true b true ≡ cond b 0 2
unfolding first_of
by_lengths true = refl
by_lengths false = refl

module _ (c : Card) (g s : List ℤ) (f : Fits c g s) where
  ground_words : Words g
  ground_words = record { fit = λ k. word (get_or g k (pos 0)) (f.land k) }

  state_words : Words s
  state_words = record { fit = λ k. at k (ltb k (cells c)) refl }
    where
      at : (k : ℕ) (t : Bool) → ltb k (cells c) ≡ t → SFits w32 (get_or s k (pos 0))
      at k true e = word (get_or s k (pos 0)) (f.height_high k (ltb-true k (cells c) e))
      at k false e =
          let h = ltb-false k (cells c) e in
          let q : cells c + (k - cells c) ≡ k = omega arith in
          let v : nat_abs (get_or s k (pos 0)) ≤ 20000000 = rw q at (f.speed (k - cells c)) in
          word (get_or s k (pos 0)) (omega arith)

  abbrev sheet : List ℕ
  sheet = sheet_of c g s

  pub card_back : card_in sheet ≡ c
  unfolding sheet_of header card_in bytes_of
  card_back =
      let r = f.card in
      let columns : number_in 1 (drop 5 sheet) ≡ c.columns = number-bytes 1 c.columns _ (omega arith) in
      let rows : number_in 1 (drop 6 sheet) ≡ c.rows = number-bytes 1 c.rows _ (omega arith) in
      let dx : number_in 4 (drop 7 sheet) ≡ c.dx = number-bytes 4 c.dx _ (omega arith) in
      let dy : number_in 4 (drop 11 sheet) ≡ c.dy = number-bytes 4 c.dy _ (omega arith) in
      let dt : number_in 2 (drop 15 sheet) ≡ c.dt = number-bytes 2 c.dt _ (omega arith) in
      let steps : number_in 2 (drop 17 sheet) ≡ c.steps = number-bytes 2 c.steps _ (omega arith) in
      λ i. record { columns = columns i; rows = rows i; dx = dx i; dy = dy i; dt = dt i; steps = steps i }

  pub cells_back : cells (card_in sheet) ≡ length g
  cells_back = ap cells card_back ∙ sym f.lengths.land

  pub length_back : state_length (card_in sheet) ≡ length s
  unfolding state_length
  length_back = ap state_length card_back ∙ sym f.lengths.state

  behind_header : drop 19 sheet ≡ words_bytes g ++ words_bytes s
  unfolding sheet_of header bytes_of
  behind_header = refl

  pub ground_back_lem : ground_in sheet ≡ g
  unfolding ground_in
  ground_back_lem = ap₂ words_in cells_back behind_header ∙ words_read g (words_bytes s) ground_words

  pub state_back_lem : state_in sheet ≡ s
  unfolding state_in
  state_back_lem =
      let e : 4 * cells (card_in sheet) ≡ length (words_bytes g) = ap (λ (n : ℕ). 4 * n) cells_back ∙ sym (length_words g) in
      let d : drop (19 + 4 * cells (card_in sheet)) sheet ≡ words_bytes s ++ [] =
      sym (drop-drop (4 * cells (card_in sheet)) 19 sheet) ∙ ap₂ drop e behind_header ∙ drop-append_seam (words_bytes g) (words_bytes s) ∙ sym (append-nil (words_bytes s)) in
      ap₂ words_in length_back d ∙ words_read s [] state_words

  size_back : length sheet ≡ sheet_size (card_in sheet)
  size_back = length_sheet c g s ∙ sym (size_words (card_in sheet) ∙ ap₂ (λ (n m : ℕ). 19 + (4 * n + 4 * m)) cells_back length_back)

  pub sheet_size_lem : length sheet ≡ sheet_size c
  sheet_size_lem = size_back ∙ ap sheet_size card_back

  size_small : sheet_size c < 4294967296
  unfolding sheet_size
  size_small = let r = f.card in omega arith

  named_back : number_in 4 sheet ≡ sheet_size c
  unfolding sheet_of header
  named_back = ap (number_in 4) (append_assoc (bytes_of 4 (sheet_size c)) _ _) ∙ number-bytes 4 (sheet_size c) _ size_small

  version_back : number_in 1 (drop 4 sheet) ≡ 1
  unfolding sheet_of header bytes_of number_in
  version_back = refl

  -- its reader can refuse nothing but the lengths of the lists that it is lent
  pub number_back : check c g s ≡ 0 → (n m : ℕ) → read_number sheet n m ≡ cond (eqb n (length g) && eqb m (length s)) 0 2
  unfolding head_fits sheet_lengths_fit
  number_back e n m =
      let p = check_sound c g s e in
      let long : 19 ≤ length sheet = omega (arith, length_sheet c g s) in
      let named : number_in 4 sheet ≡ length sheet = named_back ∙ sym sheet_size_lem in
      let h₁ = le-leb 19 (length sheet) long in
      let h₂ = eq-eqb (number_in 4 sheet) (length sheet) named in
      let h₃ = eq-eqb (number_in 1 (drop 4 sheet)) 1 version_back in
      let h₄ = eq-eqb (length sheet) (sheet_size (card_in sheet)) size_back in
      rw (read_number_is sheet n m, h₁, h₂, h₃, h₄, cells_back, length_back, card_back, ground_back_lem, state_back_lem, p.card, p.values) (by_lengths (eqb n (length g) && eqb m (length s)))
