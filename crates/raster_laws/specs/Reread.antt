-- What the reader finds in the words of a raster that was written: its sizes, its side and its values, and no reason to refuse.
use Rattle.std.specs.Prelude.{ℕ, zero, suc, ◌*◌, ◌≤◌, ◌<◌, ◌≡◌, refl, Bool, false, cond, ◌&&◌, ℤ, pos, nat_abs, get_or}
use Rattle.std.proofs.Math.Path.{sym, ap, ap₂}
use Rattle.std.proofs.Common.{◌∙◌, le_of_suc-le-suc, arith}
use Rattle.std.proofs.Math.Bool.{true, not}
use mathlib.Core.List.{List, [], ◌∷◌, map}
use Rattle.std.proofs.Math.ListN.{length, drop}
use Rattle.std.proofs.lemmas.List.{length-map}
use Rattle.std.proofs.Math.Dec.{eqb}
use borrow.Author.Tests.{eq-eqb, le-leb}
use Rattle.rules.specs.Site.{ground_fits}
use Rattle.rules.specs.Grid.{all}
use Rattle.rules.specs.Raster.{word, digits_front, digits_rest, unsigned, fraction_fits, unsigned_fits, is_decimal, decimal_value, nodata_value, lower, is_key, count_at, decimal_at, has_no_data, head_fits, columns_in, rows_in, side_in, value_words, values_in, is_raster, raster_sizes_fit, is_no_data, raster_values_fit, raster_number_of, signed_metres}
use Rattle.laws.specs.Tests.{to_T, true_of}
use Rattle.laws.specs.Grids.{all_intro}
use Rattle.laws.specs.Checks.{together}
use Rattle.laws.specs.Facts.{within_ends}
use Rattle.raster_laws.specs.Figures.{decimal-number, decimal_count}
use Rattle.raster_laws.specs.Metres.{metres_value, metres-decimal, signed_decimal, signed_value, signed_no_key}
use Rattle.raster_laws.specs.Written.{written}

-- what a raster has that the writer does not refuse; its values as the text has them, northern row first
pub record Writable (columns rows side : ℕ) (values : List ℤ) : Type 0 where
  pub columns_low : 1 ≤ columns
  pub columns_high : columns ≤ 128
  pub rows_low : 1 ≤ rows
  pub rows_high : rows ≤ 128
  pub side_low : 100000 ≤ side
  pub side_high : side ≤ 20000000
  pub long : length values ≡ rows * columns
  pub small : (k : ℕ) → k < length values → nat_abs (get_or values k (pos 0)) ≤ 50000000

-- ---- Values as words, and back

first_no_key : (l : List ℤ) → is_key nodata_value (word (map signed_metres l) 0) ≡ false
unfolding is_key
first_no_key [] = refl
first_no_key (z ∷ zs) = signed_no_key z

word_at_lem : (l : List ℤ) (k : ℕ) → k < length l → word (map signed_metres l) k ≡ signed_metres (get_or l k (pos 0))
word_at_lem [] k h = absurd (omega arith)
word_at_lem (z ∷ zs) zero h = refl
word_at_lem (z ∷ zs) (suc k) h = word_at_lem zs k (le_of_suc-le-suc h)

values_back : (l : List ℤ) → ((k : ℕ) → k < length l → nat_abs (get_or l k (pos 0)) ≤ 50000000) → map decimal_value (map signed_metres l) ≡ l
values_back [] h = refl
values_back (z ∷ zs) h = ap₂ ◌∷◌ (signed_value z (let s = h 0 (omega arith) in omega arith)) (values_back zs (λ k b. h (suc k) (omega arith)))

-- the corner
corner_decimal : is_decimal (48 ∷ []) ≡ true
unfolding is_decimal unsigned_fits unsigned digits_front digits_rest fraction_fits
corner_decimal = refl

-- ---- The words that are written

module _ {columns rows side : ℕ} {l : List ℤ} (f : Writable columns rows side l) where
  abbrev ws : List (List ℕ)
  ws = written columns rows side (map signed_metres l)

  no_data_none : has_no_data ws ≡ false
  unfolding has_no_data
  no_data_none = first_no_key l

  pub columns_read : columns_in ws ≡ columns
  unfolding columns_in
  columns_read = let h = f.columns_high in decimal-number columns (omega arith)

  pub rows_read : rows_in ws ≡ rows
  unfolding rows_in
  rows_read = let h = f.rows_high in decimal-number rows (omega arith)

  pub side_read : side_in ws ≡ pos side
  unfolding side_in
  side_read = let h = f.side_high in metres_value side (omega arith)

  words_read : value_words ws ≡ map signed_metres l
  unfolding value_words
  words_read = ap (λ (t : Bool). drop (cond t 12 10) ws) no_data_none

  count_read : length (value_words ws) ≡ length l
  count_read = ap length words_read ∙ length-map l signed_metres

  pub values_read : values_in ws ≡ l
  unfolding values_in
  values_read = ap (map decimal_value) words_read ∙ values_back l f.small

  cells_read : rows_in ws * columns_in ws ≡ rows * columns
  cells_read = ap₂ ◌*◌ rows_read columns_read

  head_read : head_fits ws ≡ true
  unfolding head_fits count_at decimal_at is_key lower
  head_read =
      let wide = f.columns_high in
      let high = f.rows_high in
      let long = f.side_high in
      rw (no_data_none, decimal_count columns (omega arith), decimal_count rows (omega arith), metres-decimal side (omega arith), corner_decimal)

  raster_read : is_raster ws ≡ true
  unfolding is_raster
  raster_read =
      ap₂ (λ (s t : Bool). s && t && eqb (length (value_words ws)) (rows_in ws * columns_in ws)) head_read decimals
      ∙ eq-eqb (length (value_words ws)) (rows_in ws * columns_in ws) (count_read ∙ f.long ∙ sym cells_read)
    where
      one : (k : ℕ) → k < length (value_words ws) → is_decimal (word (value_words ws) k) ≡ true
      one k b =
          let inside : k < length l = omega (arith, count_read) in
          let small = f.small k inside in
          ap (λ (v : List (List ℕ)). is_decimal (word v k)) words_read ∙ ap is_decimal (word_at_lem l k inside) ∙ signed_decimal (get_or l k (pos 0)) (omega arith)

      decimals : all (length (value_words ws)) (λ k. is_decimal (word (value_words ws) k)) ≡ true
      decimals = true_of _ (all_intro (length (value_words ws)) (λ k. is_decimal (word (value_words ws) k)) (λ k b. to_T (one k b)))

  sizes_read : raster_sizes_fit ws ≡ true
  unfolding raster_sizes_fit
  sizes_read =
      let wide = within_ends 1 128 columns f.columns_low f.columns_high in
      let high = within_ends 1 128 rows f.rows_low f.rows_high in
      let long = within_ends 100000 20000000 side f.side_low f.side_high in
      rw (columns_read, rows_read, side_read, wide, high, long)

  values_fit_lem : raster_values_fit ws ≡ true
  unfolding raster_values_fit is_no_data
  values_fit_lem =
      true_of _
      (all_intro (length (value_words ws)) (λ k. ground_fits (get_or (values_in ws) k (pos 0)) && not (is_no_data ws (get_or (values_in ws) k (pos 0)))) (λ k b. to_T (one k b)))
    where
      one : (k : ℕ) → k < length (value_words ws) → (ground_fits (get_or (values_in ws) k (pos 0)) && not (is_no_data ws (get_or (values_in ws) k (pos 0)))) ≡ true
      one k b = rw (no_data_none, values_read, le-leb (nat_abs (get_or l k (pos 0))) 50000000 (f.small k (omega (arith, count_read))))

  -- no number refuses
  pub number_read : raster_number_of ws (rows * columns) ≡ 0
  unfolding raster_number_of
  number_read =
      rw raster_read
      (together (record { card = sizes_read; lengths = eq-eqb (rows * columns) (rows_in ws * columns_in ws) (sym cells_read); values = values_fit_lem }))
