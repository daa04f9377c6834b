-- The shape of a sheet: its size and its parts, and what its reader's number 0 says.
use Rattle.std.specs.Prelude.{ℕ, suc, ◌+◌, ◌*◌, ◌≤◌, ◌≡◌, refl, Bool, true, false, cond, List, ◌++◌, ℤ, length, drop, leb, eqb}
use Rattle.std.proofs.Common.{ap, ap₂, ◌∙◌, mul-suc, suc-mul, suc-ne-zero, arith, length-append, leb→le, eqb→eq, eq-eqb}
use Rattle.std.proofs.Math.Bool.{and-true}
use Rattle.rules.specs.declared.Card.{Card}
use Rattle.rules.specs.Site.{cells, state_length, card_fits, lengths_fit, values_fit, read_ground, read_state, first_of, check_also}
use Rattle.rules.specs.Sheet.{bytes_of, number_in, words_bytes, words_in, sheet_size, header, sheet_of, card_in, ground_in, state_in, head_fits, sheet_lengths_fit, read_number}
use Rattle.laws.specs.Tests.{true_of, to_T, three_of}
use Rattle.laws.specs.Facts.{card_facts, granted}
use Rattle.laws.specs.Words.{length_words, length_in}

-- ---- sizes

-- the header, and four bytes for each word
pub size_words : (c : Card) → sheet_size c ≡ 19 + (4 * (c.rows * c.columns) + 4 * state_length c)
unfolding sheet_size state_length
size_words c = omega (arith, mul-suc c.rows c.columns, suc-mul c.rows c.columns)

pub size_high : (c : Card) → card_fits c ≡ true → sheet_size c ≤ 263187
unfolding sheet_size
size_high c h = let r = card_facts c h in omega arith

pub length-header : (c : Card) → length (header c) ≡ 19
unfolding header bytes_of
length-header c = refl

pub length_sheet : (c : Card) (g s : List ℤ) → length (sheet_of c g s) ≡ 19 + (4 * length g + 4 * length s)
unfolding sheet_of
length_sheet c g s =
    length-append (header c) (words_bytes g ++ words_bytes s)
    ∙ omega (arith, length-header c, length-append (words_bytes g) (words_bytes s), length_words g, length_words s)

-- ---- what a sheet's head says

pub record Head (l : List ℕ) : Type 0 where
  pub long : 19 ≤ length l
  pub named : number_in 4 l ≡ length l
  pub version : number_in 1 (drop 4 l) ≡ 1

pub head_facts : (l : List ℕ) → head_fits l ≡ true → Head l
unfolding head_fits
head_facts l e =
    let t = three_of (leb 19 (length l)) (eqb (number_in 4 l) (length l)) (eqb (number_in 1 (drop 4 l)) 1) (to_T e) in
    record { long = leb→le _ _ t.one; named = eqb→eq _ _ t.two; version = eqb→eq _ _ t.three }

-- ---- and its lengths

pub record Sizes (l : List ℕ) (n m : ℕ) : Type 0 where
  pub sized : length l ≡ sheet_size (card_in l)
  pub land : n ≡ (card_in l).rows * (card_in l).columns
  pub state : m ≡ state_length (card_in l)

pub size_facts : (l : List ℕ) (n m : ℕ) → sheet_lengths_fit l n m ≡ true → Sizes l n m
unfolding sheet_lengths_fit
size_facts l n m e =
    let c = card_in l in
    let t = three_of (eqb (length l) (sheet_size c)) (eqb n (c.rows * c.columns)) (eqb m (state_length c)) (to_T e) in
    record { sized = eqb→eq _ _ t.one; land = eqb→eq _ _ t.two; state = eqb→eq _ _ t.three }

-- ---- a sheet that is not refused

pub record Read (l : List ℕ) (n m : ℕ) : Type 0 where
  pub head : Head l
  pub card : card_fits (card_in l) ≡ true
  pub sizes : Sizes l n m
  pub values : values_fit (card_in l) (read_ground (card_in l) (ground_in l)) (read_state (card_in l) (state_in l)) ≡ true

-- a number that is 0 behind a test that refuses: the test passed
pub passed : (b : Bool) (x k : ℕ) → cond b x (suc k) ≡ 0 → (b ≡ true) × (x ≡ 0)
passed true x k e = (refl, e)
passed false x k e = absurd (suc-ne-zero k e)

pub read_facts : (l : List ℕ) (n m : ℕ) → read_number l n m ≡ 0 → Read l n m
unfolding read_number
read_facts l n m e =
    let h = passed (head_fits l) _ 8 e in
    let p = granted true (sheet_lengths_fit l n m) true (card_in l) (ground_in l) (state_in l) h.1 in
    record { head = head_facts l h.0; card = p.sound.card; sizes = size_facts l n m (true_of _ p.for_2); values = p.sound.values }

-- the lists that are read have the lengths that the card asks for
length_ground_in : (l : List ℕ) → length (ground_in l) ≡ (card_in l).rows * (card_in l).columns
unfolding ground_in
length_ground_in l = length_in _ (drop 19 l)

pub length_state_in : (l : List ℕ) → length (state_in l) ≡ state_length (card_in l)
unfolding state_in
length_state_in l = length_in _ (drop (19 + 4 * cells (card_in l)) l)

-- and are the words that stand in the bytes
pub ground_there : (l : List ℕ) {n : ℕ} → n ≡ cells (card_in l) → words_in n (drop 19 l) ≡ ground_in l
unfolding ground_in
ground_there l e = ap (λ (k : ℕ). words_in k (drop 19 l)) e

pub state_there : (l : List ℕ) {n m : ℕ} → n ≡ cells (card_in l) → m ≡ state_length (card_in l) → words_in m (drop (19 + 4 * n) l) ≡ state_in l
unfolding state_in
state_there l e f = ap₂ (λ (i j : ℕ). words_in j (drop (19 + 4 * i) l)) e f

pub read_lengths : (l : List ℕ) → lengths_fit (card_in l) (ground_in l) (state_in l) ≡ true
unfolding lengths_fit
read_lengths l =
    rw (
      eq-eqb (length (ground_in l)) (cells (card_in l)) (length_ground_in l),
      eq-eqb (length (state_in l)) (state_length (card_in l)) (length_state_in l),
    )

-- so for 2 only the sheet's length and those of the lent lists decide
pub read_number_is : (l : List ℕ) (n m : ℕ)
    → read_number l n m
    ≡ cond (head_fits l) (first_of (card_fits (card_in l)) (sheet_lengths_fit l n m) (values_fit (card_in l) (read_ground (card_in l) (ground_in l)) (read_state (card_in l) (state_in l)))) 9
unfolding read_number check_also
read_number_is l n m = rw (read_lengths l, and-true (sheet_lengths_fit l n m))
