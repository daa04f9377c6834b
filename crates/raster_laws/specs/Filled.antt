-- The values of a raster that passes, read into a list: one row, and row by row from the north.
use Rattle.std.specs.Prelude.{ℕ, suc, ◌+◌, ◌*◌, ◌-◌, ◌≤◌, ◌<◌, ◌≡◌, refl, Bool, true, false, List, [], ◌∷◌, ◌++◌, ℤ, pos, nat_abs, length, set, take, drop, ltb}
use Rattle.std.proofs.Common.{sym, ◌∙◌, subst, arith, suc-mul, add-mul, zero-mul, length-drop, length-append, take-append-drop, drop_of_length-le, get_or-drop, get_or-take, drop-drop, drop_at, length-take-le, ext_get_or, ltb-true, ltb-false, mul-le-mul}
use Rattle.std.proofs.Math.Path.{ap, ap₂}
use Rattle.std.proofs.Math.ListN.{get_or}
use Rattle.std.proofs.lemmas.List.{length-map}
use borrow.Rule.Slice.PartMut.{put_mid}
use Rattle.rules.specs.Grid.{grid}
use Rattle.rules.specs.Raster.{words_of, word, is_decimal, decimal_value, signed, value_words, values_in, rows_turned, raster_ground}
use Rattle.laws.specs.Copies.{Copied, begin, more, done}
use Rattle.laws.specs.Grids.{get_d_grid, length-grid}
use Rattle.raster_laws.specs.Words.{Skipped, WordAt, Word, between, no_words}
use Rattle.raster_laws.specs.Looks.{values_of, value_read, met_is, met_rest, size_signed}
use Rattle.raster_laws.specs.Decisions.{Passes}

-- ---- One row

-- from `at` on there are n values at least, and each is a decimal in its range
pub record Readable (text : List ℕ) (at n : ℕ) : Type 0 where
  pub within : at ≤ length text
  pub many : n ≤ length (words_of (drop at text))
  pub decimals : (k : ℕ) → k < n → is_decimal (word (words_of (drop at text)) k) ≡ true
  pub small : (k : ℕ) → k < n → nat_abs (decimal_value (word (words_of (drop at text)) k)) ≤ 50000000

-- n values end at `end`, and the others are left
pub record Left (text : List ℕ) (at n end : ℕ) : Type 0 where
  pub within : end ≤ length text
  pub rest : words_of (drop end text) ≡ drop n (words_of (drop at text))

-- a loop over them, i of which are read
pub record RowReading (text : List ℕ) (at : ℕ) (old : List ℤ) (p : ℕ) (row : List ℤ) (i : ℕ) : Type 0 where
  pub within : p ≤ length text
  pub rest : words_of (drop p text) ≡ drop i (words_of (drop at text))
  pub filled : Copied (take (length old) (values_of (words_of (drop at text)))) old row i

module _ {text : List ℕ} {at : ℕ} (old : List ℤ) (r : Readable text at (length old)) where
  abbrev ws : List (List ℕ)
  ws = words_of (drop at text)

  abbrev source : List ℤ
  source = take (length old) (values_of ws)

  long : length source ≡ length old
  long = length-take-le (length old) (values_of ws) (let m = r.many in omega (arith, length-map ws decimal_value))

  pub row_none : RowReading text at old at old 0
  row_none = record { within = r.within; rest = refl; filled = begin (sym long) }

  module _ {p : ℕ} {row : List ℤ} {i : ℕ} (g : RowReading text at old p row i) (h : i < length old) {start : ℕ} (s : Skipped text p start) where
    -- there is a word left
    some : start < length text
    some = go (ltb start (length text)) refl
      where
        go : (t : Bool) → ltb start (length text) ≡ t → start < length text
        go true e = ltb-true start (length text) e
        go false e =
            let none : drop i ws ≡ [] = sym g.rest ∙ sym s.words ∙ no_words text start (ltb-false start (length text) e) in
            let n = ap length none in
            let m = r.many in
            absurd (omega (arith, n, m, h, length-drop i ws))

    pub row_word : WordAt text start
    row_word = record { inside = some; begins = s.begins some }

    module _ {end : ℕ} (w : Word text start end) where
      met : drop i ws ≡ between text start end ∷ words_of (drop end text)
      met = sym g.rest ∙ sym s.words ∙ w.words

      word_is : word ws i ≡ between text start end
      word_is = met_is ws i (between text start end) [] (words_of (drop end text)) met

      pub row_decimal : is_decimal (between text start end) ≡ true
      row_decimal = ap is_decimal (sym word_is) ∙ r.decimals i h

      module _ (minus : Bool) (size : ℕ) (v : signed minus size ≡ decimal_value (between text start end)) where
        is_value : signed minus size ≡ decimal_value (word ws i)
        is_value = v ∙ ap decimal_value (sym word_is)

        pub row_small : size ≤ 50000000
        row_small = subst (λ (n : ℕ). n ≤ 50000000) (ap nat_abs (sym is_value) ∙ size_signed minus size) (r.small i h)

        pub row_more : {z : ℤ} → z ≡ signed minus size → RowReading text at old end (set row i z) (i + 1)
        row_more e = record {
          within = w.within;
          rest = sym (met_rest ws i (between text start end) [] (words_of (drop end text)) met);
          filled =
              more (pos 0) g.filled (omega (arith, long, h))
              (e ∙ is_value ∙ sym (value_read ws i) ∙ sym (get_or-take (length old) (values_of ws) i (pos 0) h));
        }

  pub row_all : {p : ℕ} {row : List ℤ} {i : ℕ} → RowReading text at old p row i → length old ≤ i → row ≡ source
  row_all g h = done g.filled (omega (arith, long, h))

  pub row_left : {p : ℕ} {row : List ℤ} {i : ℕ} → RowReading text at old p row i → length old ≤ i → Left text at (length old) p
  row_left {i = i} g h = record {
    within = g.within;
    rest = g.rest ∙ ap (λ (n : ℕ). drop n ws) (let m = g.filled.most in let e : i ≡ length old = omega (arith, long, m, h) in e);
  }

-- the row stays as long as it was
pub row_length : {text : List ℕ} {at : ℕ} {old : List ℤ} {p : ℕ} {row : List ℤ} {i : ℕ} → RowReading text at old p row i → length row ≡ length old
row_length g = g.filled.same

-- ---- Row by row, the northern one first

-- the rows from `row` on are read, and the values that are left begin behind p
pub record Filling (text : List ℕ) (n columns rows at : ℕ) (row p : ℕ) (land : List ℤ) : Type 0 where
  pub most : row ≤ rows
  pub within : p ≤ length text
  pub rest : words_of (drop p text) ≡ drop ((rows - row) * columns) (value_words (words_of text))
  pub long : length land ≡ n
  pub filled : drop (row * columns) land ≡ drop (row * columns) (raster_ground (words_of text))

module _ {text : List ℕ} {n columns rows at : ℕ} (f : Passes text n columns rows at) where
  abbrev values : List (List ℕ)
  values = value_words (words_of text)

  abbrev target : List ℤ
  target = raster_ground (words_of text)

  target_is : target ≡ grid columns rows (λ i j. get_or (values_of values) ((rows - 1 - j) * columns + i) (pos 0))
  unfolding raster_ground rows_turned values_in
  target_is = ap₂ (λ (m k : ℕ). grid m k (λ i j. get_or (values_of values) ((k - 1 - j) * m + i) (pos 0))) (sym f.columns_are) (sym f.rows_are)

  target_long : length target ≡ rows * columns
  target_long = ap length target_is ∙ length-grid columns rows _

  fill_start : {land : List ℤ} → length land ≡ n → Filling text n columns rows at rows at land
  fill_start {land} e = record {
    most = omega arith;
    within = f.within;
    rest = f.values ∙ ap (λ (k : ℕ). drop k values) (sym none);
    long = e;
    filled = drop_of_length-le land {i = rows * columns} (omega (arith, e, f.long)) ∙ sym (drop_of_length-le target {i = rows * columns} (omega (arith, target_long)));
  }
    where
      none : (rows - rows) * columns ≡ 0
      none = ap (λ (k : ℕ). k * columns) (let z : rows - rows ≡ 0 = omega arith in z) ∙ zero-mul columns

  pub fill_none : {land : List ℤ} → length land ≡ n → Filling text n columns rows at (rows - 0) at land
  fill_none {land} e = subst (λ (k : ℕ). Filling text n columns rows at k at land) (let z : rows ≡ rows - 0 = omega arith in z) (fill_start e)

  -- the next row to the south
  module _ {row p : ℕ} {land : List ℤ} (g : Filling text n columns rows at row p land) (k : ℕ) (e : row ≡ suc k) (m : ℕ) (w : m ≡ columns) where
    abbrev read : ℕ
    read = (rows - row) * columns

    -- so many are read, and so many are left
    shared : rows * columns ≡ read + (k * columns + columns)
    shared =
        ap (λ (j : ℕ). j * columns) (let most = g.most in let z : rows ≡ rows - row + suc k = omega (arith, most, e) in z)
        ∙ add-mul (rows - row) (suc k) columns
        ∙ ap (λ (j : ℕ). read + j) (suc-mul k columns)

    word_there : (i : ℕ) → word (words_of (drop p text)) i ≡ word values (read + i)
    word_there i = ap (λ (l : List (List ℕ)). word l i) g.rest ∙ get_or-drop read values i []

    fill_readable : Readable text p m
    fill_readable = record {
      within = g.within;
      many = omega (arith, ap length g.rest, length-drop read values, f.count, shared, w);
      decimals = λ i h. ap is_decimal (word_there i) ∙ f.decimals (read + i) (omega (arith, h, w, shared));
      small = λ i h. subst (λ (v : List ℕ). nat_abs (decimal_value v) ≤ 50000000) (sym (word_there i)) (f.small (read + i) (omega (arith, h, w, shared)));
    }

    module _ {end : ℕ} (l : Left text p m end) (start : ℕ) (st : start ≡ k * columns) {new : List ℤ} (is : new ≡ take m (values_of (words_of (drop p text)))) where
      -- the row that is read is that of the ground
      row_there : (i : ℕ) → i < columns → get_or new i (pos 0) ≡ get_or target (start + i) (pos 0)
      row_there i h =
          ap (λ (r : List ℤ). get_or r i (pos 0)) is
          ∙ get_or-take m (values_of (words_of (drop p text))) i (pos 0) (omega (arith, h, w))
          ∙ value_read (words_of (drop p text)) i
          ∙ ap decimal_value (word_there i)
          ∙ sym (value_read values (read + i))
          ∙ ap (λ (j : ℕ). get_or (values_of values) (j * columns + i) (pos 0)) (let most = g.most in let z : rows - row ≡ rows - 1 - k = omega (arith, e, most) in z)
          ∙ sym (get_d_grid columns rows (λ i j. get_or (values_of values) ((rows - 1 - j) * columns + i) (pos 0)) i k (pos 0) h (let most = g.most in omega (arith, e, most)))
          ∙ ap (λ (t : List ℤ). get_or t (k * columns + i) (pos 0)) (sym target_is)
          ∙ ap (λ (j : ℕ). get_or target (j + i) (pos 0)) (sym st)

      new_long : length new ≡ columns
      new_long = ap length is ∙ length-take-le m (values_of (words_of (drop p text))) (let r = fill_readable.many in omega (arith, r, length-map (words_of (drop p text)) decimal_value)) ∙ w

      row_is : new ≡ take columns (drop start target)
      row_is =
          ext_get_or (pos 0) new (take columns (drop start target))
          (new_long ∙ sym (length-take-le columns (drop start target) (omega (arith, length-drop start target, target_long, shared, st))))
          (λ i h. row_there i (omega (arith, h, new_long)) ∙ sym (get_or-take columns (drop start target) i (pos 0) (omega (arith, h, new_long)) ∙ get_or-drop start target i (pos 0)))

      below : start ≤ length land
      below = omega (arith, g.long, f.long, shared, st)

      fill_more : (q : ℕ) → q ≡ columns → Filling text n columns rows at k end (put_mid start q land new)
      fill_more q v = record {
        most = (let most = g.most in omega (arith, e, most));
        within = l.within;
        rest =
            l.rest
            ∙ ap (drop m) g.rest
            ∙ drop-drop m read values
            ∙ ap (λ (j : ℕ). drop j values) (ap (λ (j : ℕ). read + j) w ∙ sym one_more);
        long =
            length-append (take start land) (new ++ drop q (drop start land))
            ∙ (let a = length-take-le start land below in
            let b = length-append new (drop q (drop start land)) in
            let c = length-drop q (drop start land) in
            let d = length-drop start land in
            omega (arith, a, b, c, d, new_long, v, g.long, f.long, shared, st));
        filled =
            ap (λ (j : ℕ). drop j (put_mid start q land new)) (sym st)
            ∙ drop_at (take start land) (new ++ drop q (drop start land)) start (length-take-le start land below)
            ∙ ap₂ ◌++◌ row_is (drop-drop q start land ∙ ap (λ (j : ℕ). drop j land) next_row ∙ g.filled ∙ sym (drop-drop columns start target ∙ ap (λ (j : ℕ). drop j target) next_row'))
            ∙ take-append-drop columns (drop start target)
            ∙ ap (λ (j : ℕ). drop j target) st;
      }
        where
          one_more : (rows - k) * columns ≡ read + columns
          one_more =
              ap (λ (j : ℕ). j * columns) (let most = g.most in let z : rows - k ≡ suc (rows - row) = omega (arith, e, most) in z)
              ∙ suc-mul (rows - row) columns

          next_row' : start + columns ≡ row * columns
          next_row' = ap (λ (j : ℕ). j + columns) st ∙ sym (ap (λ (j : ℕ). j * columns) e ∙ suc-mul k columns)

          next_row : start + q ≡ row * columns
          next_row = ap (λ (j : ℕ). start + j) v ∙ next_row'

  -- a part of the list that is as long as a row, from `start` on, is lent for the next one
  module _ {i p : ℕ} {land : List ℤ} (g : Filling text n columns rows at (rows - i) p land) (less : i < rows) (start : ℕ) (inside : start + columns ≤ rows * columns) where
    abbrev south : ℕ
    south = rows - 1 - i

    down : rows - i ≡ suc south
    down = omega arith

    abbrev part : List ℤ
    part = take (start + columns - start) (drop start land)

    row_long : length part ≡ columns
    row_long =
        let e : start + columns - start ≡ columns = omega arith in
        length-take-le (start + columns - start) (drop start land) (omega (arith, e, inside, g.long, f.long, length-drop start land)) ∙ e

    pub row_readable : Readable text p (length part)
    row_readable = fill_readable g south down (length part) row_long

    -- and where it begins at that row's place, one row more is read
    pub row_filled : {end : ℕ} {new : List ℤ} → start ≡ south * columns → Left text p (length part) end → new ≡ take (length part) (values_of (words_of (drop p text)))
        → Filling text n columns rows at (rows - (i + 1)) end (put_mid start (start + columns - start) land new)
    row_filled {end} {new} st l is =
        subst (λ (k : ℕ). Filling text n columns rows at k end (put_mid start (start + columns - start) land new))
        (let e : south ≡ rows - (i + 1) = omega arith in e)
        (fill_more g south down (length part) row_long l start st is (start + columns - start) (omega arith))

  pub fill_room : {row p : ℕ} {land : List ℤ} → Filling text n columns rows at row p land → (length land ≡ rows * columns) × (length land ≤ 16384)
  fill_room g = (g.long ∙ f.long, omega (arith, g.long, f.long, mul-le-mul f.high f.wide))

  pub fill_all : {row p : ℕ} {land : List ℤ} → Filling text n columns rows at row p land → row ≡ 0 → land ≡ target
  fill_all {row} {p} {land} g e = sym (at_front land) ∙ g.filled ∙ at_front target
    where
      at_front : (l : List ℤ) → drop (row * columns) l ≡ l
      at_front l = ap (λ (j : ℕ). drop j l) (ap (λ (j : ℕ). j * columns) e ∙ zero-mul columns)
