-- A key and the word behind it, from a place in a text on: what is found there, and what words are left.
use Rattle.std.specs.Prelude.{ℕ, ◌≤◌, ◌≡◌, Bool, true, false, not, ◌&&◌, ◌||◌, List, [], ℤ, Option, Some, None, length, drop}
use Rattle.std.proofs.Math.Path.{sym, ap}
use Rattle.std.proofs.Common.{ap₂, ◌∙◌, get_or-drop, drop-drop}
use Rattle.std.proofs.Math.Bool.{cond}
use Rattle.rules.specs.Raster.{words_of, word, is_key, nodata_value, digits_fit, number_of, is_decimal, decimal_value, unsigned, size_of, is_minus, signed, count_at, decimal_at}
use Rattle.raster_laws.specs.Words.{between, Next}

-- ---- A key, and the word behind it

pub record NamedAt (text : List ℕ) (at : ℕ) (key value : List ℕ) (end : ℕ) : Type 0 where
  pub within : end ≤ length text
  pub says : is_key key (word (words_of (drop at text)) 0) ≡ true
  pub is : value ≡ word (words_of (drop at text)) 1
  pub rest : words_of (drop end text) ≡ drop 2 (words_of (drop at text))

module _ {text : List ℕ} {at : ℕ} (key : List ℕ) {start end : ℕ} (n : Next text at start end) where
  pub not_named : is_key key (between text start end) ≡ false → is_key key (word (words_of (drop at text)) 0) ≡ false
  not_named k = ap (is_key key) (sym n.is) ∙ k

  pub is_named : {start' end' : ℕ} → is_key key (between text start end) ≡ true → Next text end start' end' → NamedAt text at key (between text start' end') end'
  is_named k m = record {
    within = m.within;
    says = ap (is_key key) (sym n.is) ∙ k;
    is = m.is ∙ ap (λ (ws : List (List ℕ)). word ws 0) n.rest ∙ get_or-drop 1 (words_of (drop at text)) 0 [];
    rest = m.rest ∙ ap (drop 1) n.rest ∙ drop-drop 1 1 (words_of (drop at text));
  }

-- ---- A key and a count

pub record CountedAt (text : List ℕ) (at : ℕ) (key : List ℕ) (number end : ℕ) : Type 0 where
  pub within : end ≤ length text
  pub says : count_at (words_of (drop at text)) key 0 ≡ true
  pub is : number ≡ number_of (word (words_of (drop at text)) 1)
  pub rest : words_of (drop end text) ≡ drop 2 (words_of (drop at text))

-- a key and a decimal

pub record MeasuredAt (text : List ℕ) (at : ℕ) (key : List ℕ) (value : ℤ) (end : ℕ) : Type 0 where
  pub within : end ≤ length text
  pub says : decimal_at (words_of (drop at text)) key 0 ≡ true
  pub is : value ≡ decimal_value (word (words_of (drop at text)) 1)
  pub rest : words_of (drop end text) ≡ drop 2 (words_of (drop at text))

-- the key for no data with its decimal, or neither

abbrev pub no_data_fits : List (List ℕ) → Bool
no_data_fits ws = not (is_key nodata_value (word ws 0)) || is_decimal (word ws 1)

pub record NoDataAt (text : List ℕ) (at : ℕ) (no_data : Option ℤ) (end : ℕ) : Type 0 where
  pub within : end ≤ length text
  pub says : no_data_fits (words_of (drop at text)) ≡ true
  pub is : no_data ≡ cond (is_key nodata_value (word (words_of (drop at text)) 0)) (Some (decimal_value (word (words_of (drop at text)) 1))) None
  pub rest : words_of (drop end text) ≡ drop (cond (is_key nodata_value (word (words_of (drop at text)) 0)) 2 0) (words_of (drop at text))

-- no key
module _ (text : List ℕ) (at : ℕ) (key : List ℕ) (e : is_key key (word (words_of (drop at text)) 0) ≡ false) where
  pub count_not : count_at (words_of (drop at text)) key 0 ≡ false
  unfolding count_at
  count_not = ap (λ (t : Bool). t && digits_fit 12 (word (words_of (drop at text)) 1)) e

  pub measure_not : decimal_at (words_of (drop at text)) key 0 ≡ false
  unfolding decimal_at
  measure_not = ap (λ (t : Bool). t && is_decimal (word (words_of (drop at text)) 1)) e

-- a key, and a word behind it that is one or none
module _ {text : List ℕ} {at : ℕ} {key : List ℕ} {value : List ℕ} {end : ℕ} (n : NamedAt text at key value end) where
  pub count_none : digits_fit 12 value ≡ false → count_at (words_of (drop at text)) key 0 ≡ false
  unfolding count_at
  count_none e = ap₂ ◌&&◌ n.says (ap (digits_fit 12) (sym n.is) ∙ e)

  pub count_some : {number : ℕ} → digits_fit 12 value ≡ true → number ≡ number_of value → CountedAt text at key number end
  unfolding count_at
  count_some d m = record {
    within = n.within;
    says = ap₂ ◌&&◌ n.says (ap (digits_fit 12) (sym n.is) ∙ d);
    is = m ∙ ap number_of n.is;
    rest = n.rest;
  }

  pub measure_none : is_decimal value ≡ false → decimal_at (words_of (drop at text)) key 0 ≡ false
  unfolding decimal_at
  measure_none e = ap₂ ◌&&◌ n.says (ap is_decimal (sym n.is) ∙ e)

  pub measure_some : {z : ℤ} → is_decimal value ≡ true → z ≡ decimal_value value → MeasuredAt text at key z end
  unfolding decimal_at
  measure_some d m = record {
    within = n.within;
    says = ap₂ ◌&&◌ n.says (ap is_decimal (sym n.is) ∙ d);
    is = m ∙ ap decimal_value n.is;
    rest = n.rest;
  }

module _ {text : List ℕ} {at : ℕ} where
  pub no_data_none : at ≤ length text → is_key nodata_value (word (words_of (drop at text)) 0) ≡ false → NoDataAt text at None at
  no_data_none h e = record {
    within = h;
    says = ap (λ (t : Bool). not t || is_decimal (word (words_of (drop at text)) 1)) e;
    is = sym (ap (λ (t : Bool). cond t (Some (decimal_value (word (words_of (drop at text)) 1))) None) e);
    rest = sym (ap (λ (t : Bool). drop (cond t 2 0) (words_of (drop at text))) e);
  }

  module _ {value : List ℕ} {end : ℕ} (n : NamedAt text at nodata_value value end) where
    pub no_data_some : {z : ℤ} → is_decimal value ≡ true → z ≡ decimal_value value → NoDataAt text at (Some z) end
    no_data_some d m = record {
      within = n.within;
      says = ap₂ (λ (s t : Bool). not s || t) n.says (ap is_decimal (sym n.is) ∙ d);
      is = ap Some (m ∙ ap decimal_value n.is) ∙ sym (ap (λ (t : Bool). cond t (Some (decimal_value (word (words_of (drop at text)) 1))) None) n.says);
      rest = n.rest ∙ sym (ap (λ (t : Bool). drop (cond t 2 0) (words_of (drop at text))) n.says);
    }
