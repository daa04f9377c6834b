-- The reader's number, from what the look over a text has found.
use Rattle.std.specs.Prelude.{ℕ, zero, suc, ◌*◌, ◌≤◌, ◌<◌, ◌≡◌, Bool, ◌&&◌, List, Option, Some, None, ℤ, pos, length, drop, leb}
use Rattle.std.proofs.Math.Path.{refl, sym, ap, ap₂, subst}
use Rattle.std.proofs.Common.{◌∙◌, arith}
use Rattle.std.proofs.Math.Bool.{true, false, cond, not}
use Rattle.std.proofs.Math.IntN.{nat_abs}
use Rattle.std.specs.Int.Signed.{le_z}
use Rattle.std.proofs.Math.Dec.{eqb}
use borrow.Author.Tests.{eqb-true}
use Rattle.rules.specs.Site.{within, first_of, ground_fits}
use Rattle.rules.specs.Raster.{words_of, word, is_decimal, decimal_value, signed, head_fits, has_no_data, columns_in, rows_in, side_in, no_data_in, value_words, values_in, is_raster, raster_sizes_fit, is_no_data, raster_values_fit, raster_number_of, raster_number, raster_ground}
use Rattle.rules.specs.Calls.{read_raster_answer, read_raster_ground}
use Rattle.rules.specs.PublicContracts.{ReadRasterContract}
use Rattle.laws.specs.Grids.{all_same}
use Rattle.laws.specs.Outcomes.{if_done_lem, if_refused}
use Rattle.raster_laws.specs.Heads.{Headed}
use Rattle.raster_laws.specs.Looks.{Looked, all_decimals, is_given, value_fits, value_read}
use Rattle.raster_laws.specs.Done.{is_done}

-- ---- A side in its range

pub side_between : (minus : Bool) (side : ℕ) → (not minus && (leb 100000 side && leb side 20000000)) ≡ (le_z (pos 100000) (signed minus side) && le_z (signed minus side) (pos 20000000))
unfolding signed
side_between false side = refl
side_between true zero = refl
side_between true (suc n) = refl

-- ---- What is decided

-- what a text has that is read
pub record Passes (text : List ℕ) (n columns rows at : ℕ) : Type 0 where
  pub within : at ≤ length text
  pub wide : columns ≤ 128
  pub high : rows ≤ 128
  pub columns_are : columns ≡ columns_in (words_of text)
  pub rows_are : rows ≡ rows_in (words_of text)
  pub long : n ≡ rows * columns
  pub values : words_of (drop at text) ≡ value_words (words_of text)
  pub count : length (value_words (words_of text)) ≡ rows * columns
  pub decimals : (k : ℕ) → k < rows * columns → is_decimal (word (value_words (words_of text)) k) ≡ true
  pub small : (k : ℕ) → k < rows * columns → nat_abs (decimal_value (word (value_words (words_of text)) k)) ≤ 50000000

-- what is decided of a text that passes
pub record Decided (text : List ℕ) (n columns rows side at : ℕ) : Type 0 where
  pub is : raster_number text n ≡ 0
  pub side_is : side ≡ nat_abs (side_in (words_of text))
  pub passes : Passes text n columns rows at

-- a text whose keys are not a raster's
pub no_head : (text : List ℕ) (n : ℕ) → head_fits (words_of text) ≡ false → 10 ≡ raster_number text n
unfolding raster_number raster_number_of is_raster
no_head text n e = sym (rw e)

module _ {text : List ℕ} {columns rows : ℕ} {side : ℤ} {no_data : Option ℤ} {end : ℕ} (h : Headed text columns rows side no_data end) where
  abbrev ws : List (List ℕ)
  ws = words_of text

  abbrev values : List (List ℕ)
  values = value_words ws

  cells : rows * columns ≡ rows_in ws * columns_in ws
  cells = ap₂ ◌*◌ h.rows_are h.columns_are

  sizes_are : (within 1 128 columns && within 1 128 rows && (le_z (pos 100000) side && le_z side (pos 20000000))) ≡ raster_sizes_fit ws
  unfolding raster_sizes_fit
  sizes_are =
      ap₂ (λ (c r : ℕ). within 1 128 c && within 1 128 r && (le_z (pos 100000) side && le_z side (pos 20000000))) h.columns_are h.rows_are
      ∙ ap (λ (s : ℤ). within 1 128 (columns_in ws) && within 1 128 (rows_in ws) && (le_z (pos 100000) s && le_z s (pos 20000000))) h.side_is

  -- a value that is no decimal
  pub no_values : (n : ℕ) → all_decimals (words_of (drop end text)) ≡ false → 10 ≡ raster_number text n
  unfolding raster_number raster_number_of is_raster
  no_values n e = sym (rw (h.says, sym (ap all_decimals h.values) ∙ e))

  module _ {count : ℕ} {fit : Bool} (l : Looked (words_of (drop end text)) no_data count fit) where
    -- the look was over the values
    l' : Looked values no_data count fit
    l' = subst (λ (v : List (List ℕ)). Looked v no_data count fit) h.values l

    raster_is : eqb count (rows * columns) ≡ is_raster ws
    unfolding is_raster
    raster_is = ap₂ eqb l'.counted cells ∙ sym (ap₂ (λ (s t : Bool). s && t && eqb (length values) (rows_in ws * columns_in ws)) h.says l'.says)

    -- the no-data value is compared only where one is given
    one_fits : (z : ℤ) → value_fits no_data z ≡ (ground_fits z && not (is_no_data ws z))
    unfolding is_no_data
    one_fits z = ap (λ (t : Bool). ground_fits z && not t) (ap (λ (d : Option ℤ). is_given d z) h.no_data_is ∙ go (has_no_data ws))
      where
        go : (t : Bool) → is_given (cond t (Some (no_data_in ws)) None) z ≡ (t && (le_z z (no_data_in ws) && le_z (no_data_in ws) z))
        go true = refl
        go false = refl

    values_fit_lem : fit ≡ raster_values_fit ws
    unfolding raster_values_fit values_in
    values_fit_lem =
        l'.fits
        ∙ all_same (length values) _ _
        (λ k b. one_fits (decimal_value (word values k)) ∙ ap (λ (z : ℤ). ground_fits z && not (is_no_data ws z)) (sym (value_read values k)))

    -- the number, from the four tests
    pub number_is : (n : ℕ) {sizes counts : Bool} {number : ℕ}
        → sizes ≡ (within 1 128 columns && within 1 128 rows && (le_z (pos 100000) side && le_z side (pos 20000000)))
        → counts ≡ eqb count (rows * columns)
        → number ≡ cond counts (first_of sizes (eqb n count) fit) 10
        → number ≡ raster_number text n
    unfolding raster_number raster_number_of
    number_is n {sizes} {counts} s c e =
        e
        ∙ ap (λ (t : Bool). cond t (first_of sizes (eqb n count) fit) 10) (c ∙ raster_is)
        ∙ go (is_raster ws) refl
      where
        go : (t : Bool) → is_raster ws ≡ t → cond t (first_of sizes (eqb n count) fit) 10 ≡ cond t (first_of (raster_sizes_fit ws) (eqb n (rows_in ws * columns_in ws)) (raster_values_fit ws)) 10
        go false g = refl
        go true g =
            let q : count ≡ rows_in ws * columns_in ws = eqb-true count (rows * columns) (raster_is ∙ g) ∙ cells in
            ap₂ (λ (a b : Bool). first_of a b fit) (s ∙ sizes_are) (ap (eqb n) q) ∙ ap (first_of (raster_sizes_fit ws) (eqb n (rows_in ws * columns_in ws))) values_fit_lem

    -- a text that is read
    pub side_small : (n : ℕ) → raster_number text n ≡ 0 → nat_abs side ≤ 20000000
    unfolding raster_number
    side_small n z = subst (λ (k : ℤ). nat_abs k ≤ 20000000) (sym h.side_is) (is_done ws n z).side_high

    pub passed : (n : ℕ) → raster_number text n ≡ 0 → Passes text n columns rows end
    unfolding raster_number
    passed n z =
        let d = is_done ws n z in
        record {
          within = h.within;
          wide = rw h.columns_are d.columns_high;
          high = rw h.rows_are d.rows_high;
          columns_are = h.columns_are;
          rows_are = h.rows_are;
          long = d.lent ∙ sym cells;
          values = h.values;
          count = d.count ∙ sym cells;
          decimals = λ k b. d.decimals k (omega (arith, b, cells));
          small = λ k b. d.small k (omega (arith, b, cells));
        }

    pub decided : (n : ℕ) {size : ℕ} → raster_number text n ≡ 0 → size ≡ nat_abs side → Decided text n columns rows size end
    decided n z s = record {
      is = z;
      side_is = s ∙ ap nat_abs h.side_is;
      passes = passed n z;
    }

-- ---- What the reader answers and leaves, from what is decided

module _ (text : List ℕ) (land : List ℤ) where
  pub answered_done : {columns rows side at : ℕ} {left : List ℤ} → Decided text (length land) columns rows side at → left ≡ raster_ground (words_of text)
      → ReadRasterContract text land (record { number = 0; columns = columns; rows = rows; side = side }) left
  unfolding read_raster_answer read_raster_ground
  answered_done d e = record {
    answer = λ i. record {
      number = sym d.is i;
      columns = (d.passes.columns_are ∙ sym (if_done_lem _ (columns_in (words_of text)) 0 d.is)) i;
      rows = (d.passes.rows_are ∙ sym (if_done_lem _ (rows_in (words_of text)) 0 d.is)) i;
      side = (d.side_is ∙ sym (if_done_lem _ (nat_abs (side_in (words_of text))) 0 d.is)) i;
    };
    ground_exit = e ∙ sym (if_done_lem _ (raster_ground (words_of text)) land d.is);
  }

  pub answered_refused : {number : ℕ} → number ≡ raster_number text (length land) → (number ≡ 0 → ⊥)
      → ReadRasterContract text land (record { number = number; columns = 0; rows = 0; side = 0 }) land
  unfolding read_raster_answer read_raster_ground
  answered_refused e n = record {
    answer = λ i. record {
      number = e i;
      columns = sym (if_refused _ (columns_in (words_of text)) 0 (λ z. n (e ∙ z))) i;
      rows = sym (if_refused _ (rows_in (words_of text)) 0 (λ z. n (e ∙ z))) i;
      side = sym (if_refused _ (nat_abs (side_in (words_of text))) 0 (λ z. n (e ∙ z))) i;
    };
    ground_exit = sym (if_refused _ (raster_ground (words_of text)) land (λ z. n (e ∙ z)));
  }
