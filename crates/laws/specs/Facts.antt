-- What the first three checks say of a card, a ground and a state, as facts that a proof can use.
use Rattle.std.specs.Prelude.{ℕ, suc, ◌+◌, ◌*◌, ◌≤◌, ◌<◌, ◌≡◌, refl, Bool, true, false, ◌&&◌, List, ℤ, pos, negsuc, nat_abs, length, get_or, T, leb, ltb, eqb}
use Rattle.std.proofs.Common.{zero-le, ap₂, subst, mul-le-mul, arith, leb→le, eqb→eq, ltb-true, ltb-false, le-leb}
use Rattle.std.specs.Int.Signed.{le_z}
use Rattle.std.proofs.Math.ListN.{get_or-eq_default}
use Rattle.std.proofs.Math.Arith.{digits_lt}
use Rattle.rules.specs.declared.Card.{Card}
use Rattle.rules.specs.Grid.{all}
use Rattle.rules.specs.Site.{within, sizes_fit, sides_fit, times_fit, card_fits, state_length, lengths_fit, read_ground, read_state, ground_fits, height_fits, speed_fits, grounds_fit, heights_fit, velocities_fit, walls_still, values_fit, check_also, check}
use Rattle.laws.specs.Tests.{and_left, and_right, three_of, four_of, to_T, true_of}
use Rattle.laws.specs.Grids.{all_at_lem}
use Rattle.laws.specs.Values.{grounds_flat, depths_flat, faces_flat}
use Rattle.laws.specs.Checks.{Passed, apart, together, after_card}

-- ---- the card

pub record Ranges (c : Card) : Type 0 where
  pub columns_low : 1 ≤ c.columns
  pub columns_high : c.columns ≤ 128
  pub rows_low : 1 ≤ c.rows
  pub rows_high : c.rows ≤ 128
  pub dx_low : 100000 ≤ c.dx
  pub dx_high : c.dx ≤ 20000000
  pub dy_low : 100000 ≤ c.dy
  pub dy_high : c.dy ≤ 20000000
  pub dt_low : 1 ≤ c.dt
  pub dt_high : c.dt ≤ 1000
  pub steps_high : c.steps ≤ 10000
  -- and of the products that count cells, eastward faces and northward faces, and of their sum
  pub cells_high : c.rows * c.columns ≤ 16384
  pub easts_high : c.rows * suc c.columns ≤ 16512
  pub norths_high : suc c.rows * c.columns ≤ 16512
  pub state_high : state_length c ≤ 49408

record Inside (low high n : ℕ) : Type 0 where
  low_end : low ≤ n
  high_end : n ≤ high

inside : (low high n : ℕ) → T (within low high n) → Inside low high n
inside low high n t = record { low_end = leb→le low n (and_left (leb low n) (leb n high) t); high_end = leb→le n high (and_right (leb low n) (leb n high) t) }

pub within_ends : (low high n : ℕ) → low ≤ n → n ≤ high → within low high n ≡ true
within_ends low high n h k = ap₂ ◌&&◌ (le-leb low n h) (le-leb n high k)

pub card_facts : (c : Card) → card_fits c ≡ true → Ranges c
unfolding card_fits sizes_fit sides_fit times_fit state_length
card_facts c e =
    let t = three_of (sizes_fit c) (sides_fit c) (times_fit c) (to_T e) in
    let columns = inside 1 128 c.columns (and_left (within 1 128 c.columns) (within 1 128 c.rows) t.one) in
    let rows = inside 1 128 c.rows (and_right (within 1 128 c.columns) (within 1 128 c.rows) t.one) in
    let dx = inside 100000 20000000 c.dx (and_left (within 100000 20000000 c.dx) (within 100000 20000000 c.dy) t.two) in
    let dy = inside 100000 20000000 c.dy (and_right (within 100000 20000000 c.dx) (within 100000 20000000 c.dy) t.two) in
    let dt = inside 1 1000 c.dt (and_left (within 1 1000 c.dt) (leb c.steps 10000) t.three) in
    let wide : suc c.columns ≤ 129 = omega arith in
    let tall : suc c.rows ≤ 129 = omega arith in
    let cells : c.rows * c.columns ≤ 16384 = mul-le-mul rows.high_end columns.high_end in
    let easts : c.rows * suc c.columns ≤ 16512 = mul-le-mul rows.high_end wide in
    let norths : suc c.rows * c.columns ≤ 16512 = mul-le-mul tall columns.high_end in
    record {
      columns_low = columns.low_end;
      columns_high = columns.high_end;
      rows_low = rows.low_end;
      rows_high = rows.high_end;
      dx_low = dx.low_end;
      dx_high = dx.high_end;
      dy_low = dy.low_end;
      dy_high = dy.high_end;
      dt_low = dt.low_end;
      dt_high = dt.high_end;
      steps_high = leb→le c.steps 10000 (and_right (within 1 1000 c.dt) (leb c.steps 10000) t.three);
      cells_high = cells;
      easts_high = easts;
      norths_high = norths;
      state_high = omega arith;
    }

-- ---- the lists: lent at the lengths that the card asks for

-- what the check of the values may rest on
pub record Sized (c : Card) (g s : List ℤ) : Type 0 where
  pub card : card_fits c ≡ true
  pub lengths : lengths_fit c g s ≡ true

pub record Lengths (c : Card) (g s : List ℤ) : Type 0 where
  pub land : length g ≡ c.rows * c.columns
  pub state : length s ≡ state_length c
  pub heights : c.rows * c.columns ≤ length s

pub length_facts : (c : Card) (g s : List ℤ) → lengths_fit c g s ≡ true → Lengths c g s
unfolding lengths_fit state_length
length_facts c g s e =
    let t = to_T e in
    let land = eqb (length g) (c.rows * c.columns) in
    let state = eqb (length s) (state_length c) in
    let long : length s ≡ state_length c = eqb→eq (length s) (state_length c) (and_right land state t) in
    record { land = eqb→eq (length g) (c.rows * c.columns) (and_left land state t); state = long; heights = omega arith }

-- ---- the values. A place behind the end of a list reads as 0, so that most of them need no bound on the place.

pub record Fits (c : Card) (g s : List ℤ) : Type 0 where
  pub card : Ranges c
  pub lengths : Lengths c g s
  -- by place in the list
  pub land : (k : ℕ) → nat_abs (get_or g k (pos 0)) ≤ 50000000
  pub height_low : (k : ℕ) → k < c.rows * c.columns → T (le_z (pos 0) (get_or s k (pos 0)))
  pub height_high : (k : ℕ) → k < c.rows * c.columns → nat_abs (get_or s k (pos 0)) ≤ 50000000
  pub speed : (k : ℕ) → nat_abs (get_or s (c.rows * c.columns + k) (pos 0)) ≤ 20000000
  -- by column and row
  pub ground_at : (i j : ℕ) → nat_abs (read_ground c g i j) ≤ 50000000
  pub height_low_at : (i j : ℕ) → i < c.columns → j < c.rows → T (le_z (pos 0) ((read_state c s).height i j))
  pub height_high_at : (i j : ℕ) → i < c.columns → j < c.rows → nat_abs ((read_state c s).height i j) ≤ 50000000
  pub east_at : (i j : ℕ) → nat_abs ((read_state c s).east i j) ≤ 20000000
  pub north_at : (i j : ℕ) → nat_abs ((read_state c s).north i j) ≤ 20000000

high_of : (z : ℤ) → T (height_fits z) → nat_abs z ≤ 50000000
high_of (pos n) t = leb→le n 50000000 (and_right (le_z (pos 0) (pos n)) (le_z (pos n) (pos 50000000)) t)
high_of (negsuc n) t = absurd t

low_of : (z : ℤ) → T (height_fits z) → T (le_z (pos 0) z)
low_of z t = and_left (le_z (pos 0) z) (le_z z (pos 50000000)) t

-- numbers of which the first n are at most b, and the others 0
padded : (b n : ℕ) (f : ℕ → ℤ) → ((k : ℕ) → k < n → nat_abs (f k) ≤ b) → ((k : ℕ) → n ≤ k → f k ≡ pos 0) → (k : ℕ) → nat_abs (f k) ≤ b
padded b n f low high k = go (ltb k n) refl
  where
    go : (t : Bool) → ltb k n ≡ t → nat_abs (f k) ≤ b
    go true e = low k (ltb-true k n e)
    go false e = rw (high k (ltb-false k n e)) zero-le

-- what a site has that passes the first three checks: its card, its lengths and its values fit
abbrev pub Sound : Card → (land state : List ℤ) → Type 0
Sound c g s = Passed (card_fits c) (lengths_fit c g s) (values_fit c (read_ground c g) (read_state c s))

pub sound_depths : (c : Card) (g s : List ℤ) → Sound c g s → T (heights_fit c (read_state c s))
unfolding values_fit
sound_depths c g s sound =
    let w = read_state c s in
    (four_of (grounds_fit c (read_ground c g)) (heights_fit c w) (velocities_fit c w) (walls_still c w) (to_T sound.values)).two

pub sound_speeds : (c : Card) (g s : List ℤ) → Sound c g s → T (velocities_fit c (read_state c s))
unfolding values_fit
sound_speeds c g s sound =
    let w = read_state c s in
    (four_of (grounds_fit c (read_ground c g)) (heights_fit c w) (velocities_fit c w) (walls_still c w) (to_T sound.values)).three

pub sound_facts : (c : Card) (g s : List ℤ) → Sound c g s → Fits c g s
unfolding values_fit read_ground read_state state_length
sound_facts c g s sound =
    let cells = c.rows * c.columns in
    let faces = c.rows * suc c.columns + suc c.rows * c.columns in
    let w = read_state c s in
    let lengths = length_facts c g s sound.lengths in
    let t = four_of (grounds_fit c (read_ground c g)) (heights_fit c w) (velocities_fit c w) (walls_still c w) (to_T sound.values) in
    let grounds : T (all cells (λ k. ground_fits (get_or g k (pos 0)))) = subst T (grounds_flat c g) t.one in
    let heights : T (all cells (λ k. height_fits (get_or s k (pos 0)))) = subst T (depths_flat c s) t.two in
    let speeds : T (all faces (λ k. speed_fits (get_or s (cells + k) (pos 0)))) = subst T (faces_flat c s) t.three in
    let land : (k : ℕ) → nat_abs (get_or g k (pos 0)) ≤ 50000000 =
    padded 50000000 cells (λ k. get_or g k (pos 0)) (λ k h. leb→le _ _ (all_at_lem cells (λ k. ground_fits (get_or g k (pos 0))) grounds k h)) (λ k h. get_or-eq_default g (pos 0) (omega arith)) in
    let height : (k : ℕ) → k < cells → T (height_fits (get_or s k (pos 0))) = λ k h. all_at_lem cells (λ k. height_fits (get_or s k (pos 0))) heights k h in
    let speed : (k : ℕ) → nat_abs (get_or s (cells + k) (pos 0)) ≤ 20000000 =
    padded 20000000 faces (λ k. get_or s (cells + k) (pos 0)) (λ k h. leb→le _ _ (all_at_lem faces (λ k. speed_fits (get_or s (cells + k) (pos 0))) speeds k h)) (λ k h. get_or-eq_default s (pos 0) (omega arith)) in
    record {
      card = card_facts c sound.card;
      lengths = lengths;
      land = land;
      height_low = λ k h. low_of (get_or s k (pos 0)) (height k h);
      height_high = λ k h. high_of (get_or s k (pos 0)) (height k h);
      speed = speed;
      ground_at = λ i j. land (j * c.columns + i);
      height_low_at = λ i j hi hj. low_of (get_or s (j * c.columns + i) (pos 0)) (height (j * c.columns + i) (digits_lt hj hi));
      height_high_at = λ i j hi hj. high_of (get_or s (j * c.columns + i) (pos 0)) (height (j * c.columns + i) (digits_lt hj hi));
      east_at = λ i j. speed (j * suc c.columns + i);
      north_at = λ i j. speed (c.rows * suc c.columns + (j * c.columns + i));
    }

-- ---- a check that gives 0: what the call asked besides is so, and the site is sound

pub record Granted (one two three : Bool) (c : Card) (g s : List ℤ) : Type 0 where
  pub for_1 : T one
  pub for_2 : T two
  pub for_3 : T three
  pub sound : Sound c g s

pub granted : (one two three : Bool) (c : Card) (g s : List ℤ) → check_also one two three c g s ≡ 0 → Granted one two three c g s
unfolding check_also
granted one two three c g s e =
    let card = card_fits c in
    let lengths = lengths_fit c g s in
    let values = values_fit c (read_ground c g) (read_state c s) in
    let p = apart (one && card) (two && lengths) (three && values) e in
    record {
      for_1 = and_left one card (to_T p.card);
      for_2 = and_left two lengths (to_T p.lengths);
      for_3 = and_left three values (to_T p.values);
      sound = record {
        card = true_of card (and_right one card (to_T p.card));
        lengths = true_of lengths (and_right two lengths (to_T p.lengths));
        values = true_of values (and_right three values (to_T p.values));
      };
    }

-- what is asked for 2 may be looked at after the card
pub also_after_card : (one two three : Bool) (c : Card) (g s : List ℤ) → check_also one (card_fits c && two) three c g s ≡ check_also one two three c g s
unfolding check_also
also_after_card one two three c g s = after_card one (card_fits c) two (lengths_fit c g s) (three && values_fit c (read_ground c g) (read_state c s))

pub check_sound : (c : Card) (g s : List ℤ) → check c g s ≡ 0 → Sound c g s
unfolding check
check_sound c g s e = (granted true true true c g s e).sound

pub sound_check : (c : Card) (g s : List ℤ) → Sound c g s → check c g s ≡ 0
unfolding check check_also
sound_check c g s sound = together sound

pub check_facts : (c : Card) (g s : List ℤ) → check c g s ≡ 0 → Fits c g s
check_facts c g s e = sound_facts c g s (check_sound c g s e)

-- a sound site, and one more list that is as long as its state
pub record SoundWith (c : Card) (g s more : List ℤ) : Type 0 where
  pub sound : Sound c g s
  pub long : length more ≡ state_length c
