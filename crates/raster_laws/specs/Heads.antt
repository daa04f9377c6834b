-- The keys of a raster in their order, each with its value, found one behind the other.
use Rattle.std.specs.Prelude.{ℕ, suc, ◌+◌, ◌≤◌, ◌≡◌, refl, Bool, true, false, cond, ◌||◌, ℤ, Option, Some, None, length}
use Rattle.std.proofs.Common.{sym, ◌∙◌, add-zero, add-one, get_or-drop, drop-drop}
use Rattle.std.proofs.Math.Path.{ap, ap₂}
use Rattle.std.proofs.Math.Bool.{not, ◌&&◌}
use mathlib.Core.List.{List, []}
use Rattle.std.proofs.Math.ListN.{drop}
use Rattle.rules.specs.Raster.{words_of, word, is_key, ncols, nrows, xllcorner, yllcorner, cellsize, nodata_value, is_decimal, digits_fit, number_of, decimal_value, count_at, decimal_at, has_no_data, head_fits, columns_in, rows_in, side_in, no_data_in, value_words}
use Rattle.raster_laws.specs.Fields.{CountedAt, MeasuredAt, NoDataAt, no_data_fits}

-- the no-data value of a text's words, where one is given
abbrev pub given_in : (words : List (List ℕ)) → Option ℤ
given_in ws = cond (has_no_data ws) (Some (no_data_in ws)) None

pub record Headed (text : List ℕ) (columns rows : ℕ) (side : ℤ) (no_data : Option ℤ) (end : ℕ) : Type 0 where
  pub within : end ≤ length text
  pub says : head_fits (words_of text) ≡ true
  pub columns_are : columns ≡ columns_in (words_of text)
  pub rows_are : rows ≡ rows_in (words_of text)
  pub side_is : side ≡ side_in (words_of text)
  pub no_data_is : no_data ≡ given_in (words_of text)
  pub values : words_of (drop end text) ≡ value_words (words_of text)

-- ---- What is said of the words from k on

first_on : (ws : List (List ℕ)) (k : ℕ) → word (drop k ws) 0 ≡ word ws k
first_on ws k = get_or-drop k ws 0 [] ∙ ap (word ws) (add-zero k)

second_on : (ws : List (List ℕ)) (k : ℕ) → word (drop k ws) 1 ≡ word ws (suc k)
second_on ws k = get_or-drop k ws 1 [] ∙ ap (word ws) (add-one k)

module _ (ws here : List (List ℕ)) (k : ℕ) (e : here ≡ drop k ws) where
  count_on : (key : List ℕ) → count_at here key 0 ≡ count_at ws key k
  unfolding count_at
  count_on key = ap (λ (l : List (List ℕ)). count_at l key 0) e ∙ ap₂ (λ (v w : List ℕ). is_key key v && digits_fit 12 w) (first_on ws k) (second_on ws k)

  decimal_on : (key : List ℕ) → decimal_at here key 0 ≡ decimal_at ws key k
  unfolding decimal_at
  decimal_on key = ap (λ (l : List (List ℕ)). decimal_at l key 0) e ∙ ap₂ (λ (v w : List ℕ). is_key key v && is_decimal w) (first_on ws k) (second_on ws k)

  first_is : word here 0 ≡ word ws k
  first_is = ap (λ (l : List (List ℕ)). word l 0) e ∙ first_on ws k

  second_is : word here 1 ≡ word ws (suc k)
  second_is = ap (λ (l : List (List ℕ)). word l 1) e ∙ second_on ws k

  rest_on : (m : ℕ) {rest : List (List ℕ)} → rest ≡ drop m here → rest ≡ drop (k + m) ws
  rest_on m f = f ∙ ap (drop m) e ∙ drop-drop m k ws

-- ---- One key after the other: each may be missing, and then the text is no raster's

module _ (text : List ℕ) where
  abbrev ws : List (List ℕ)
  ws = words_of text

  pub no_columns : count_at (words_of (drop 0 text)) ncols 0 ≡ false → head_fits ws ≡ false
  unfolding head_fits
  no_columns f = rw f

  module _ {columns e₀ : ℕ} (c : CountedAt text 0 ncols columns e₀) where
    says₀ : count_at ws ncols 0 ≡ true
    says₀ = c.says

    left₀ : words_of (drop e₀ text) ≡ drop 2 ws
    left₀ = c.rest

    here₁ : count_at (words_of (drop e₀ text)) nrows 0 ≡ count_at ws nrows 2
    here₁ = count_on ws _ 2 left₀ nrows

    pub no_rows : count_at (words_of (drop e₀ text)) nrows 0 ≡ false → head_fits ws ≡ false
    unfolding head_fits
    no_rows f = rw (says₀, sym here₁ ∙ f)

    module _ {rows e₁ : ℕ} (r : CountedAt text e₀ nrows rows e₁) where
      says₁ : count_at ws nrows 2 ≡ true
      says₁ = sym here₁ ∙ r.says

      left₁ : words_of (drop e₁ text) ≡ drop 4 ws
      left₁ = rest_on ws _ 2 left₀ 2 r.rest

      here₂ : decimal_at (words_of (drop e₁ text)) xllcorner 0 ≡ decimal_at ws xllcorner 4
      here₂ = decimal_on ws _ 4 left₁ xllcorner

      pub no_west : decimal_at (words_of (drop e₁ text)) xllcorner 0 ≡ false → head_fits ws ≡ false
      unfolding head_fits
      no_west f = rw (says₀, says₁, sym here₂ ∙ f)

      module _ {west : ℤ} {e₂ : ℕ} (x : MeasuredAt text e₁ xllcorner west e₂) where
        says₂ : decimal_at ws xllcorner 4 ≡ true
        says₂ = sym here₂ ∙ x.says

        left₂ : words_of (drop e₂ text) ≡ drop 6 ws
        left₂ = rest_on ws _ 4 left₁ 2 x.rest

        here₃ : decimal_at (words_of (drop e₂ text)) yllcorner 0 ≡ decimal_at ws yllcorner 6
        here₃ = decimal_on ws _ 6 left₂ yllcorner

        pub no_south : decimal_at (words_of (drop e₂ text)) yllcorner 0 ≡ false → head_fits ws ≡ false
        unfolding head_fits
        no_south f = rw (says₀, says₁, says₂, sym here₃ ∙ f)

        module _ {south : ℤ} {e₃ : ℕ} (y : MeasuredAt text e₂ yllcorner south e₃) where
          says₃ : decimal_at ws yllcorner 6 ≡ true
          says₃ = sym here₃ ∙ y.says

          left₃ : words_of (drop e₃ text) ≡ drop 8 ws
          left₃ = rest_on ws _ 6 left₂ 2 y.rest

          here₄ : decimal_at (words_of (drop e₃ text)) cellsize 0 ≡ decimal_at ws cellsize 8
          here₄ = decimal_on ws _ 8 left₃ cellsize

          pub no_side : decimal_at (words_of (drop e₃ text)) cellsize 0 ≡ false → head_fits ws ≡ false
          unfolding head_fits
          no_side f = rw (says₀, says₁, says₂, says₃, sym here₄ ∙ f)

          module _ {side : ℤ} {e₄ : ℕ} (s : MeasuredAt text e₃ cellsize side e₄) where
            says₄ : decimal_at ws cellsize 8 ≡ true
            says₄ = sym here₄ ∙ s.says

            left₄ : words_of (drop e₄ text) ≡ drop 10 ws
            left₄ = rest_on ws _ 8 left₃ 2 s.rest

            here₅ : no_data_fits (words_of (drop e₄ text)) ≡ (not (has_no_data ws) || is_decimal (word ws 11))
            unfolding has_no_data
            here₅ = ap₂ (λ (v w : List ℕ). not (is_key nodata_value v) || is_decimal w) (first_is ws _ 10 left₄) (second_is ws _ 10 left₄)

            pub no_value : no_data_fits (words_of (drop e₄ text)) ≡ false → head_fits ws ≡ false
            unfolding head_fits
            no_value f = rw (says₀, says₁, says₂, says₃, says₄, sym here₅ ∙ f)

            module _ {no_data : Option ℤ} {end : ℕ} (l : NoDataAt text e₄ no_data end) where
              says₅ : head_fits ws ≡ true
              unfolding head_fits
              says₅ = rw (says₀, says₁, says₂, says₃, says₄, sym here₅ ∙ l.says)

              given_is : is_key nodata_value (word (words_of (drop e₄ text)) 0) ≡ has_no_data ws
              unfolding has_no_data
              given_is = ap (is_key nodata_value) (first_is ws _ 10 left₄)

              both_places : (t : Bool) → drop (10 + cond t 2 0) ws ≡ drop (cond t 12 10) ws
              both_places true = refl
              both_places false = refl

              pub headed : Headed text columns rows side no_data end
              unfolding columns_in rows_in side_in no_data_in value_words
              headed = record {
                within = l.within;
                says = says₅;
                columns_are = c.is;
                rows_are = r.is ∙ ap number_of (second_is ws _ 2 left₀);
                side_is = s.is ∙ ap decimal_value (second_is ws _ 8 left₃);
                no_data_is = l.is ∙ ap₂ (λ (t : Bool) (w : List ℕ). cond t (Some (decimal_value w)) None) given_is (second_is ws _ 10 left₄);
                values =
                    rest_on ws _ 10 left₄ (cond (is_key nodata_value (word (words_of (drop e₄ text)) 0)) 2 0) l.rest
                    ∙ both_places (is_key nodata_value (word (words_of (drop e₄ text)) 0))
                    ∙ ap (λ (t : Bool). drop (cond t 12 10) ws) given_is;
              }
