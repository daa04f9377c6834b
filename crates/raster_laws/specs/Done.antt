-- What a text has that the reader does not refuse: every test has passed, and so its sizes, its side and its values are in their ranges.
use Rattle.std.specs.Prelude.{ℕ, ◌*◌, ◌≤◌, ◌<◌, ◌≡◌, Bool, ◌&&◌, List, ℤ, pos, negsuc, nat_abs, length, get_or, leb, eqb}
use Rattle.std.proofs.Math.Path.{refl, subst}
use Rattle.std.proofs.Common.{sym, ap, ◌∙◌, suc-ne-zero, arith, leb→le, eqb-true}
use Rattle.std.proofs.Math.Bool.{true, false, cond, not}
use Rattle.std.specs.Int.Signed.{le_z}
use Rattle.std.proofs.Math.Dec.{T}
use Rattle.rules.specs.Site.{within, first_of, ground_fits}
use Rattle.rules.specs.Grid.{all}
use Rattle.rules.specs.Raster.{word, is_decimal, decimal_value, head_fits, columns_in, rows_in, side_in, value_words, values_in, is_raster, raster_sizes_fit, is_no_data, raster_values_fit, raster_number_of}
use Rattle.laws.specs.Tests.{Three, three_of, and_left, and_right, to_T, true_of, false_of}
use Rattle.laws.specs.Grids.{all_at_lem}
use Rattle.laws.specs.Checks.{Passed, apart}
use Rattle.raster_laws.specs.Looks.{value_read}

pub record Done (ws : List (List ℕ)) (n : ℕ) : Type 0 where
  pub columns_low : 1 ≤ columns_in ws
  pub columns_high : columns_in ws ≤ 128
  pub rows_low : 1 ≤ rows_in ws
  pub rows_high : rows_in ws ≤ 128
  pub side_low : 100000 ≤ nat_abs (side_in ws)
  pub side_high : nat_abs (side_in ws) ≤ 20000000
  -- as many words were lent as there are values
  pub lent : n ≡ rows_in ws * columns_in ws
  pub count : length (value_words ws) ≡ rows_in ws * columns_in ws
  pub decimals : (k : ℕ) → k < rows_in ws * columns_in ws → is_decimal (word (value_words ws) k) ≡ true
  pub small : (k : ℕ) → k < rows_in ws * columns_in ws → nat_abs (decimal_value (word (value_words ws) k)) ≤ 50000000
  -- and no value is the no-data value where one is given
  pub there : (k : ℕ) → k < rows_in ws * columns_in ws → is_no_data ws (decimal_value (word (value_words ws) k)) ≡ false

-- a number between two others that are not below 0 is not below 0 either
side_range : (z : ℤ) → T (le_z (pos 100000) z && le_z z (pos 20000000)) → (100000 ≤ nat_abs z) × (nat_abs z ≤ 20000000)
side_range (pos n) t = (leb→le 100000 n (and_left (leb 100000 n) (leb n 20000000) t), leb→le n 20000000 (and_right (leb 100000 n) (leb n 20000000) t))
side_range (negsuc n) t = absurd t

module _ (ws : List (List ℕ)) (n : ℕ) (z : raster_number_of ws n ≡ 0) where
  abbrev values : List (List ℕ)
  values = value_words ws

  abbrev value : ℕ → ℤ
  value k = decimal_value (word values k)

  abbrev tested : ℕ
  tested = first_of (raster_sizes_fit ws) (eqb n (rows_in ws * columns_in ws)) (raster_values_fit ws)

  raster : is_raster ws ≡ true
  unfolding raster_number_of
  raster = go (is_raster ws) refl
    where
      go : (t : Bool) → is_raster ws ≡ t → is_raster ws ≡ true
      go true e = e
      go false e = absurd (suc-ne-zero 9 (sym (ap (λ (t : Bool). cond t tested 10) e) ∙ z))

  passed : Passed (raster_sizes_fit ws) (eqb n (rows_in ws * columns_in ws)) (raster_values_fit ws)
  unfolding raster_number_of
  passed = apart (raster_sizes_fit ws) (eqb n (rows_in ws * columns_in ws)) (raster_values_fit ws) (sym (ap (λ (t : Bool). cond t tested 10) raster) ∙ z)

  -- the tests of the keys, of each value and of their count
  parts : Three (head_fits ws) (all (length values) (λ k. is_decimal (word values k))) (eqb (length values) (rows_in ws * columns_in ws))
  unfolding is_raster
  parts = three_of _ _ _ (to_T raster)

  sizes : Three (within 1 128 (columns_in ws)) (within 1 128 (rows_in ws)) (le_z (pos 100000) (side_in ws) && le_z (side_in ws) (pos 20000000))
  unfolding raster_sizes_fit
  sizes = three_of _ _ _ (to_T passed.card)

  counted : length values ≡ rows_in ws * columns_in ws
  counted = eqb-true (length values) (rows_in ws * columns_in ws) (true_of _ parts.three)

  fits : (k : ℕ) → k < rows_in ws * columns_in ws → T (ground_fits (value k) && not (is_no_data ws (value k)))
  unfolding raster_values_fit values_in
  fits k b =
      subst (λ (v : ℤ). T (ground_fits v && not (is_no_data ws v))) (value_read values k)
      (all_at_lem (length values) (λ k. ground_fits (get_or (values_in ws) k (pos 0)) && not (is_no_data ws (get_or (values_in ws) k (pos 0)))) (to_T passed.values) k (omega (arith, b, counted)))

  pub is_done : Done ws n
  is_done =
      let side = side_range (side_in ws) sizes.three in
      record {
        columns_low = leb→le 1 (columns_in ws) (and_left (leb 1 (columns_in ws)) (leb (columns_in ws) 128) sizes.one);
        columns_high = leb→le (columns_in ws) 128 (and_right (leb 1 (columns_in ws)) (leb (columns_in ws) 128) sizes.one);
        rows_low = leb→le 1 (rows_in ws) (and_left (leb 1 (rows_in ws)) (leb (rows_in ws) 128) sizes.two);
        rows_high = leb→le (rows_in ws) 128 (and_right (leb 1 (rows_in ws)) (leb (rows_in ws) 128) sizes.two);
        side_low = side.0;
        side_high = side.1;
        lent = eqb-true n (rows_in ws * columns_in ws) passed.lengths;
        count = counted;
        decimals = λ k b. true_of _ (all_at_lem (length values) (λ k. is_decimal (word values k)) parts.two k (omega (arith, b, counted)));
        small = λ k b. leb→le (nat_abs (value k)) 50000000 (and_left (ground_fits (value k)) (not (is_no_data ws (value k))) (fits k b));
        there = λ k b. false_of (is_no_data ws (value k)) (and_right (ground_fits (value k)) (not (is_no_data ws (value k))) (fits k b));
      }
