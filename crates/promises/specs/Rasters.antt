-- Of document 02's [3], the surveyor's raster: what we write we read back, each value is exact, and what was read is in its ranges.
use Prim.Native.Nat.{ℕ, ◌+◌, ◌*◌, ◌-◌, ◌^◌, ◌≤◌, ◌<◌}
use Rattle.std.specs.Prelude.{◌≡◌, Bool, true, false, cond, ◌&&◌, ℤ, pos, nat_abs, neg_ℤ, eqb}
use Rattle.std.proofs.Math.Path.{refl, sym, ap, ap₂, subst}
use Rattle.std.proofs.Common.{◌∙◌, add-zero, mul_assoc, arith, drop_of_length-le, pow-add, eqb→eq}
use mathlib.Core.List.{List, [], ◌∷◌, ◌++◌, append-nil}
use Rattle.std.specs.Int.Signed.{le_z}
use Rattle.std.proofs.Math.ListN.{length, get_or, take, drop}
use Rattle.std.proofs.Math.Seq.{take_at}
use Rattle.std.proofs.Math.Arith.{digits_lt}
use Rattle.std.proofs.Math.Dec.{le→leb}
use Rattle.rules.specs.declared.Card.{Card}
use Rattle.rules.specs.declared.Wrote.{Wrote}
use Rattle.rules.specs.declared.Raster.{Raster}
use Rattle.rules.specs.Site.{cells, within, sizes_fit, sides_fit, times_fit, card_fits, ground_fits, grounds_fit, read_ground, first_of}
use Rattle.rules.specs.Raster.{words_of, word, is_digit, digits_front, digits_rest, all_digits, digits_fit, number_behind, number_of, is_minus, unsigned, fraction_fits, unsigned_fits, is_decimal, fraction, size_of, signed, decimal_value, has_no_data, columns_in, rows_in, side_in, no_data_in, value_words, values_in, is_no_data, rows_turned, raster_ground, raster_number, raster_text, raster_text_number}
use Rattle.rules.specs.Calls.{read_raster_answer, read_raster_ground, write_raster_answer, write_raster_text}
use Rattle.rules.specs.PublicContracts.{ReadRasterContract, WriteRasterContract}
use Rattle.laws.specs.Tests.{and_left, and_right, to_T, true_of}
use Rattle.laws.specs.Facts.{within_ends}
use Rattle.laws.specs.Grids.{all_at_intro}
use Rattle.laws.specs.Checks.{apart}
use Rattle.laws.specs.Numbers.{le_z_refl}
use Rattle.laws.specs.Outcomes.{both_passed, if_done_lem}
use Rattle.raster_laws.specs.Digits.{front_all, rest_is}
use Rattle.raster_laws.specs.Sizes.{is_count, scaled_up, unsigned_plain}
use Rattle.raster_laws.specs.Figures.{front_of, rest_of, number_append}
use Rattle.raster_laws.specs.Turned.{length-turned, turned_at, turned_keeps}
use Rattle.raster_laws.specs.Looks.{value_read}
use Rattle.raster_laws.specs.Done.{Done, is_done}
use Rattle.raster_laws.specs.ReadBack.{reads_back_answer, reads_back_ground}

-- ---- What we write we read back, by the two calls

-- the card's columns and rows, its side, which is both of its sides, and the ground
pub record GroundBack (c : Card) (g : List ℤ) (answered : Raster) (ground_at_exit : List ℤ) : Type 0 where
  pub answer : answered ≡ record { number = 0; columns = c.columns; rows = c.rows; side = c.dx }
  pub both_sides : c.dy ≡ c.dx
  pub ground_exit : ground_at_exit ≡ g

module _ (c : Card) (g : List ℤ) (text : List ℕ) (wrote : Wrote) (text_at_exit : List ℕ) (w : WriteRasterContract c g text wrote text_at_exit) (z : wrote.number ≡ 0) where
  abbrev tests : ℕ
  tests = first_of (card_fits c) (eqb (length g) (cells c) && eqb c.dx c.dy) (grounds_fit c (read_ground c g))

  written : raster_text_number c g (length text) ≡ 0
  unfolding write_raster_answer
  written = sym (ap (λ (a : Wrote). a.number) w.answer) ∙ z

  fits : tests ≡ 0
  unfolding raster_text_number
  fits = (both_passed tests _ written).0

  one_side : c.dy ≡ c.dx
  one_side =
      let long = eqb (length g) (cells c) in
      let same = eqb c.dx c.dy in
      sym (eqb→eq c.dx c.dy (and_right long same (to_T (apart (card_fits c) (long && same) (grounds_fit c (read_ground c g)) fits).lengths)))

  -- the bytes that were written are the raster's text
  is_written : take wrote.size text_at_exit ≡ raster_text c g
  unfolding write_raster_answer write_raster_text
  is_written =
      let t = raster_text c g in
      ap₂ (λ (n : ℕ) (x : List ℕ). take n x) (ap (λ (a : Wrote). a.size) w.answer ∙ if_done_lem _ (length t) 0 written) (w.text_exit ∙ if_done_lem _ (t ++ drop (length t) text) text written)
      ∙ take_at t (drop (length t) text) (length t) refl

  -- lent a list of as many words as the ground has
  pub raster_reads_back : (lent : List ℤ) → length lent ≡ cells c → (answered : Raster) (ground_at_exit : List ℤ)
      → ReadRasterContract (take wrote.size text_at_exit) lent answered ground_at_exit
      → GroundBack c g answered ground_at_exit
  raster_reads_back lent room a v r = record {
    answer = r.answer ∙ ap (λ (t : List ℕ). read_raster_answer t lent) is_written ∙ reads_back_answer c g fits lent room;
    both_sides = one_side;
    ground_exit = r.ground_exit ∙ ap (λ (t : List ℕ). read_raster_ground t lent) is_written ∙ reads_back_ground c g fits lent room;
  }

-- ---- Each value is exact: in micrometres nothing is rounded

-- digits, a point and up to six digits are the number that all of them make, over ten for each digit behind the point
pub point_exact : (w f : List ℕ) → all_digits w ≡ true → length f ≤ 6 → size_of (w ++ (46 ∷ f)) * 10 ^ length f ≡ number_of (w ++ f) * 1000000
unfolding size_of fraction number_of
point_exact w f d h =
    ap (λ (m : ℕ). m * 10 ^ length f)
    (ap₂ (λ (u v : List ℕ). number_of u * 1000000 + fraction v) (front_of 46 f refl w d) (rest_of 46 f refl w d)
    ∙ sym (scaled_up (number_of w) (length f) f h refl))
    ∙ mul_assoc (number_behind (number_of w) f) (10 ^ (6 - length f)) (10 ^ length f)
    ∙ ap₂ ◌*◌ (sym (number_append 0 w f)) (sym (pow-add 10 (6 - length f) (length f)) ∙ ap (λ (k : ℕ). 10 ^ k) six)
  where
    six : 6 - length f + length f ≡ 6
    six = omega arith

-- digits alone are whole metres
pub digits_exact : (w : List ℕ) → all_digits w ≡ true → size_of w ≡ number_of w * 1000000
unfolding size_of fraction
digits_exact w d = ap₂ (λ (u v : List ℕ). number_of u * 1000000 + fraction v) (front_all w d) none ∙ add-zero (number_of w * 1000000)
  where
    none : digits_rest w ≡ []
    none = rest_is w ∙ ap (λ (u : List ℕ). drop (length u) w) (front_all w d) ∙ drop_of_length-le w {i = length w} (omega arith)

-- a minus makes it the negative; without one it is as it stands
pub minus_exact : (w : List ℕ) → decimal_value (45 ∷ w) ≡ neg_ℤ (pos (size_of w))
unfolding decimal_value signed is_minus unsigned
minus_exact w = refl

pub plain_exact : (w : List ℕ) → is_minus w ≡ false → decimal_value w ≡ pos (size_of w)
unfolding decimal_value signed
plain_exact w e = rw (e, unsigned_plain w e)

-- and so is every decimal: behind an optional minus it is spelled in one of these two ways
pub data SpelledSize : List ℕ → Type 0 where
  whole : (w : List ℕ) → digits_fit 12 w ≡ true → SpelledSize w
  pointed : (w f : List ℕ) → digits_fit 12 w ≡ true → digits_fit 6 f ≡ true → SpelledSize (w ++ (46 ∷ f))

front_digits : (w : List ℕ) → all_digits (digits_front w) ≡ true
unfolding digits_front all_digits
front_digits [] = refl
front_digits (b ∷ w) = go (is_digit b) refl (front_digits w)
  where
    go : (t : Bool) → is_digit b ≡ t → all_digits (digits_front w) ≡ true → all_digits (cond t (b ∷ digits_front w) []) ≡ true
    go true e d = ap₂ ◌&&◌ e d
    go false e d = refl

front_and_rest : (w : List ℕ) → digits_front w ++ digits_rest w ≡ w
unfolding digits_front digits_rest
front_and_rest [] = refl
front_and_rest (b ∷ w) = go (is_digit b) (front_and_rest w)
  where
    go : (t : Bool) → digits_front w ++ digits_rest w ≡ w → cond t (b ∷ digits_front w) [] ++ cond t (digits_rest w) (b ∷ w) ≡ b ∷ w
    go true e = ap (λ (l : List ℕ). b ∷ l) e
    go false e = refl

size_spelled : (w : List ℕ) → unsigned_fits w ≡ true → SpelledSize w
unfolding unsigned_fits fraction_fits
size_spelled w e = subst SpelledSize (front_and_rest w) (go (digits_rest w) (true_of two (and_right one two (to_T e))))
  where
    one : Bool
    one = within 1 12 (length (digits_front w))

    two : Bool
    two = fraction_fits (digits_rest w)

    front : digits_fit 12 (digits_front w) ≡ true
    front = is_count 12 (digits_front w) (true_of one (and_left one two (to_T e))) (front_digits w)

    go : (v : List ℕ) → fraction_fits v ≡ true → SpelledSize (digits_front w ++ v)
    go [] f = subst SpelledSize (sym (append-nil (digits_front w))) (whole (digits_front w) front)
    go (b ∷ v) f =
        subst (λ (x : ℕ). SpelledSize (digits_front w ++ (x ∷ v))) (sym (eqb→eq b 46 (and_left (eqb b 46) (digits_fit 6 v) (to_T f))))
        (pointed (digits_front w) v front (true_of (digits_fit 6 v) (and_right (eqb b 46) (digits_fit 6 v) (to_T f))))

pub decimal_spelled : (w : List ℕ) → is_decimal w ≡ true → SpelledSize (unsigned w)
unfolding is_decimal
decimal_spelled w e = size_spelled (unsigned w) e

-- ---- A read that is done

-- columns, rows and side in their ranges, and a ground of so many words, each in its range
pub record GroundFits (answered : Raster) (g : List ℤ) : Type 0 where
  pub columns_low : 1 ≤ answered.columns
  pub columns_high : answered.columns ≤ 128
  pub rows_low : 1 ≤ answered.rows
  pub rows_high : answered.rows ≤ 128
  pub side_low : 100000 ≤ answered.side
  pub side_high : answered.side ≤ 20000000
  pub long : length g ≡ answered.rows * answered.columns
  pub small : (k : ℕ) → k < length g → nat_abs (get_or g k (pos 0)) ≤ 50000000

-- a card in its ranges, and a ground of its length with every level in range
pub record Taken (c : Card) (g : List ℤ) : Type 0 where
  pub card : card_fits c ≡ true
  pub long : length g ≡ cells c
  pub values : grounds_fit c (read_ground c g) ≡ true

module _ (text : List ℕ) (lent : List ℤ) (answered : Raster) (ground_at_exit : List ℤ) (r : ReadRasterContract text lent answered ground_at_exit) (z : answered.number ≡ 0) where
  abbrev ws : List (List ℕ)
  ws = words_of text

  number_is : raster_number text (length lent) ≡ 0
  unfolding read_raster_answer
  number_is = sym (ap (λ (a : Raster). a.number) r.answer) ∙ z

  done : Done ws (length lent)
  unfolding raster_number
  done = is_done ws (length lent) number_is

  pub columns_are : answered.columns ≡ columns_in ws
  unfolding read_raster_answer
  columns_are = ap (λ (a : Raster). a.columns) r.answer ∙ if_done_lem _ (columns_in ws) 0 number_is

  pub rows_are : answered.rows ≡ rows_in ws
  unfolding read_raster_answer
  rows_are = ap (λ (a : Raster). a.rows) r.answer ∙ if_done_lem _ (rows_in ws) 0 number_is

  pub side_is : answered.side ≡ nat_abs (side_in ws)
  unfolding read_raster_answer
  side_is = ap (λ (a : Raster). a.side) r.answer ∙ if_done_lem _ (nat_abs (side_in ws)) 0 number_is

  ground_is : ground_at_exit ≡ rows_turned (columns_in ws) (rows_in ws) (values_in ws)
  unfolding read_raster_ground raster_ground
  ground_is = r.ground_exit ∙ if_done_lem _ (raster_ground ws) lent number_is

  -- column i and row j, the southern row being 0, have the word that stands there in the text, where the northern row is the first; and that word is a decimal
  pub value_at : (i j : ℕ) → i < answered.columns → j < answered.rows
      → get_or ground_at_exit (j * answered.columns + i) (pos 0) ≡ decimal_value (word (value_words ws) ((answered.rows - 1 - j) * answered.columns + i))
  unfolding values_in
  value_at i j hi hj =
      ap₂ (λ (g : List ℤ) (m : ℕ). get_or g (j * m + i) (pos 0)) ground_is columns_are
      ∙ turned_at (columns_in ws) (rows_in ws) (values_in ws) i j (rw columns_are at hi) (rw rows_are at hj)
      ∙ value_read (value_words ws) ((rows_in ws - 1 - j) * columns_in ws + i)
      ∙ ap₂ (λ (n m : ℕ). decimal_value (word (value_words ws) ((n - 1 - j) * m + i))) (sym rows_are) (sym columns_are)

  pub value_decimal : (k : ℕ) → k < answered.rows * answered.columns → is_decimal (word (value_words ws) k) ≡ true
  value_decimal k h = done.decimals k (rw (rows_are, columns_are) at h)

  long_ground : length ground_at_exit ≡ rows_in ws * columns_in ws
  long_ground = ap length ground_is ∙ length-turned (columns_in ws) (rows_in ws) (values_in ws)

  -- what holds of every value that is read holds of the ground
  of_each : (P : ℤ → Type 0) → ((k : ℕ) → k < rows_in ws * columns_in ws → P (decimal_value (word (value_words ws) k))) → (k : ℕ) → k < rows_in ws * columns_in ws → P (get_or ground_at_exit k (pos 0))
  unfolding values_in
  of_each P h k b =
      rw ground_is
      (turned_keeps (columns_in ws) (rows_in ws) (values_in ws) P
      (λ i j hi hj. subst P (sym (value_read (value_words ws) (j * columns_in ws + i))) (h (j * columns_in ws + i) (digits_lt hj hi)))
      k b)

  pub ground_fits_lem : GroundFits answered ground_at_exit
  ground_fits_lem = record {
    columns_low = rw columns_are done.columns_low;
    columns_high = rw columns_are done.columns_high;
    rows_low = rw rows_are done.rows_low;
    rows_high = rw rows_are done.rows_high;
    side_low = rw side_is done.side_low;
    side_high = rw side_is done.side_high;
    long = long_ground ∙ sym (ap₂ ◌*◌ rows_are columns_are);
    small = λ k b. of_each (λ v. nat_abs v ≤ 50000000) done.small k (rw long_ground at b);
  }

  given_is_no_data : has_no_data ws ≡ true → is_no_data ws (no_data_in ws) ≡ true
  unfolding is_no_data
  given_is_no_data e = rw (e, true_of (le_z (no_data_in ws) (no_data_in ws)) (le_z_refl (no_data_in ws)))

  -- and no height of it is the no-data value, where the text gives one
  pub never_no_data : has_no_data ws ≡ true → (k : ℕ) → k < length ground_at_exit → get_or ground_at_exit k (pos 0) ≡ no_data_in ws → ⊥
  never_no_data e k b q =
      of_each (λ v. v ≡ no_data_in ws → ⊥) (λ k b p. to_T (sym (done.there k b) ∙ ap (is_no_data ws) p ∙ given_is_no_data e)) k (rw long_ground at b) q
