-- Finding chambers, read off the definitions: the list that a call leaves is sound, complete and rising, and as long as lent; at 8 the count is the count
-- needed; every chamber is compared exactly; a window turned over lists nothing; and -0.0 is 0.
use Rattle.std.specs.Prelude.{◌≡◌, Bool, true, false, cond, ◌⊎◌, T, leb, ℤ, pos, nat_abs, Float}
use Rattle.std.proofs.Math.Path.{refl, ap, ap₂, subst}
use Rattle.std.proofs.Common.{sym, ◌∙◌, inl, inr, suc-ne-zero, arith, length-append, length-drop}
use Rattle.std.proofs.Math.Bool.{◌&&◌, and-false}
use mathlib.Core.List.{List, [], ◌++◌}
use Prim.Native.Nat.{ℕ, zero, suc, ◌+◌, ◌*◌, ◌≤◌, ◌<◌, ◌^◌, zero-le}
use Rattle.std.specs.Int.Signed.{le_z}
use Rattle.std.proofs.Math.ListN.{length, get_or, drop, get_or-append}
use Rattle.std.proofs.Math.Seq.{get_or-append-add, get_or-drop}
use Rattle.std.specs.Float.{binary64}
use Rattle.std.specs.Float.Ieee.{lt, of_bits}
use borrow.Author.Tests.{le-leb, leb-true, leb-false}
use Rattle.rules.specs.declared.Card.{Card}
use Rattle.rules.specs.declared.Window.{Window}
use Rattle.rules.specs.Site.{check_also, card_fits, read_state, first_refusal}
use Rattle.rules.specs.Search.{is_finite, edges_finite, as_float, in_order, inside, cell_along, listed, listed_at, places, list_of, asked_fits}
use Rattle.rules.specs.Calls.{search_check, search_places, search_number, search_answer, search_found}
use Rattle.laws.specs.Checks.{at_most_3}
use Rattle.laws.specs.Facts.{card_facts}
use Rattle.laws.specs.Outcomes.{both_passed, if_done_lem}
use Rattle.laws.specs.Sheets.{passed}
use Rattle.laws.specs.Along.{along_whole, along_high, all_along_lem, reach_high}
use Rattle.laws.specs.Asked.{asked_facts, places_passed, number_passed}
use Rattle.laws.specs.Rising.{rising, sound, complete, places_empty}
use Rattle.laws.specs.Floats.{Alike, alike, zero_alike}
use Rattle.promises.specs.Refused.{search_refused}
use Rattle.promises.specs.Edges.{at_most, at_least, low_exact, high_exact, none_in_order}

-- ---- One chamber against the window, in exact numbers

unfoldable pub exactly_inside : Window → (x y : ℕ) → Bool
exactly_inside w x y = (at_most w.west x && at_least w.east x) && (at_most w.south y && at_least w.north y)

pub inside_exactly : (w : Window) (x y : ℕ) → x ≤ 2 ^ 53 → y ≤ 2 ^ 53 → inside w (pos x) (pos y) ≡ exactly_inside w x y
unfolding inside exactly_inside
inside_exactly w x y h k = ap₂ ◌&&◌ (ap₂ ◌&&◌ (low_exact w.west x h) (high_exact w.east x h)) (ap₂ ◌&&◌ (low_exact w.south y k) (high_exact w.north y k))

-- whole numbers up to 2 ^ 53
record OnSite (x y : ℤ) : Type 0 where
  x_whole : x ≡ pos (nat_abs x)
  y_whole : y ≡ pos (nat_abs y)
  x_small : nat_abs x ≤ 2 ^ 53
  y_small : nat_abs y ≤ 2 ^ 53

on_site : (w : Window) (x y : ℤ) → OnSite x y → inside w x y ≡ exactly_inside w (nat_abs x) (nat_abs y)
on_site w x y o = ap₂ (inside w) o.x_whole o.y_whole ∙ inside_exactly w (nat_abs x) (nat_abs y) o.x_small o.y_small

-- west above east, or south above north
pub TurnedOver : Window → Type 0
TurnedOver w = T (lt w.east w.west) ⊎ T (lt w.north w.south)

outside : (w : Window) (x y : ℤ) → OnSite x y → TurnedOver w → inside w x y ≡ false
unfolding inside TurnedOver
outside w x y o over = ap₂ (inside w) o.x_whole o.y_whole ∙ go over
  where
    go : T (lt w.east w.west) ⊎ T (lt w.north w.south) → inside w (pos (nat_abs x)) (pos (nat_abs y)) ≡ false
    go (inl t) = rw (none_in_order w.west w.east (nat_abs x) o.x_small t)
    go (inr t) = rw (none_in_order w.south w.north (nat_abs y) o.y_small t) (and-false (in_order w.west (as_float (pos (nat_abs x))) w.east))

-- ---- What a call leaves

-- the first three checks give no number above 3, so 8 is a room too short
too_short : (number : ℕ) (enough : Bool) → number ≤ 3 → first_refusal number (cond enough 0 8) ≡ 8 → (number ≡ 0) × (enough ≡ false)
unfolding first_refusal
too_short zero true h e = absurd (suc-ne-zero 7 (sym e))
too_short zero false h e = (refl, refl)
too_short (suc k) enough h e = absurd (omega (arith, h, e))

module _ (c : Card) (g s xs ys : List ℤ) (w : Window) (depth : ℤ) where
  abbrev is_listed : ℕ → Bool
  is_listed = listed_at c s w depth xs ys

  abbrev the_list : List ℕ
  the_list = list_of c s w depth xs ys

  -- room enough, and the call is done
  room_enough : (room : List ℕ) → search_check c g s xs ys w depth ≡ 0 → length the_list ≤ length room → search_number c g s xs ys w depth room ≡ 0
  room_enough room e h = number_passed c g s xs ys w depth room e ∙ ap (λ (b : Bool). cond b 0 8) (le-leb (length the_list) (length room) h)

  module _ (lent : List ℕ) where
    abbrev count : ℕ
    count = (search_answer c g s xs ys w depth lent).count

    abbrev left : ℕ → ℕ
    left i = get_or (search_found c g s xs ys w depth lent) i 0

    count_is : search_check c g s xs ys w depth ≡ 0 → count ≡ length the_list
    unfolding search_answer
    count_is e = ap length (places_passed c g s xs ys w depth e)

    -- a number 0 is 0 of the checks, and room enough
    done : search_number c g s xs ys w depth lent ≡ 0 → (search_check c g s xs ys w depth ≡ 0) × (length the_list ≤ length lent)
    unfolding search_number
    done e =
        let check = (both_passed (search_check c g s xs ys w depth) _ e).0 in
        (check, leb-true (length the_list) (length lent) (passed (leb (length the_list) (length lent)) 0 7 (sym (number_passed c g s xs ys w depth lent check) ∙ e)).0)

    found_is : search_number c g s xs ys w depth lent ≡ 0 → search_found c g s xs ys w depth lent ≡ the_list ++ drop (length the_list) lent
    unfolding search_found
    found_is e = if_done_lem _ _ _ e ∙ ap (λ (l : List ℕ). l ++ drop (length l) lent) (places_passed c g s xs ys w depth (done e).0)

    front : search_number c g s xs ys w depth lent ≡ 0 → (i : ℕ) → i < length the_list → left i ≡ get_or the_list i 0
    front e i h = ap (λ (l : List ℕ). get_or l i 0) (found_is e) ∙ get_or-append the_list (drop (length the_list) lent) 0 i h

    pub record Finds : Type 0 where
      -- each place in the list is one of the register, and listed
      pub each_listed : (i : ℕ) → i < count → (left i < length xs) × (is_listed (left i) ≡ true)
      -- each listed place is in it
      pub none_left_out : (k : ℕ) → k < length xs → is_listed k ≡ true → (i : ℕ) × ((i < count) × (left i ≡ k))
      -- they rise, so that each is there once
      pub they_rise : (i : ℕ) → suc i < count → left i < left (suc i)
      -- and the rest is as lent
      pub rest_as_lent : (i : ℕ) → left (count + i) ≡ get_or lent (count + i) 0

    pub finds : search_number c g s xs ys w depth lent ≡ 0 → Finds
    unfolding list_of
    finds e =
        let n = count_is (done e).0 in
        record {
          each_listed = λ i h.
              let k : i < length the_list = subst (λ (n : ℕ). i < n) n h in
              subst (λ (j : ℕ). (j < length xs) × (is_listed j ≡ true)) (sym (front e i k)) (sound is_listed (length xs) i k);
          none_left_out = λ k h t.
              let f = complete is_listed (length xs) k h t in
              (f.0, (subst (λ (n : ℕ). f.0 < n) (sym n) f.1.0, front e f.0 f.1.0 ∙ f.1.1));
          they_rise = λ i h.
              let k : suc i < length the_list = subst (λ (n : ℕ). suc i < n) n h in
              rw (front e i (omega arith), front e (suc i) k) (rising is_listed (length xs) i k);
          rest_as_lent = λ i.
              ap (λ (l : List ℕ). get_or l (count + i) 0) (found_is e)
              ∙ ap (λ (m : ℕ). get_or (the_list ++ drop (length the_list) lent) (m + i) 0) n
              ∙ get_or-append-add the_list (drop (length the_list) lent) i 0
              ∙ get_or-drop (length the_list) lent i 0
              ∙ ap (λ (m : ℕ). get_or lent (m + i) 0) (sym n);
        }

    -- done or refused, the list at exit is as long as lent
    pub as_long_as_lent : length (search_found c g s xs ys w depth lent) ≡ length lent
    as_long_as_lent = go (search_number c g s xs ys w depth lent) refl
      where
        go : (k : ℕ) → search_number c g s xs ys w depth lent ≡ k → length (search_found c g s xs ys w depth lent) ≡ length lent
        go zero e = ap length (found_is e) ∙ length-append the_list (drop (length the_list) lent) ∙ omega (arith, length-drop (length the_list) lent, (done e).1)
        go (suc k) e = ap length (search_refused c g s xs ys w depth lent (omega (arith, e)))

    -- 8: the count needed, which is more than was lent and with which the call is done; the list as lent
    pub record TooShort : Type 0 where
      pub count_needed : count ≡ length the_list
      pub more_than_lent : length lent < count
      pub enough : (room : List ℕ) → count ≤ length room → search_number c g s xs ys w depth room ≡ 0
      pub list_as_lent : search_found c g s xs ys w depth lent ≡ lent

    checked_at_8 : search_number c g s xs ys w depth lent ≡ 8 → (search_check c g s xs ys w depth ≡ 0) × (length lent < length the_list)
    unfolding search_number search_check check_also
    checked_at_8 e =
        let t = too_short (search_check c g s xs ys w depth) (leb (length (search_places c g s xs ys w depth)) (length lent)) (at_most_3 (card_fits c) _ _) e in
        (t.0, leb-false (length the_list) (length lent) (rw (places_passed c g s xs ys w depth t.0) at t.1))

    pub count_at_8 : search_number c g s xs ys w depth lent ≡ 8 → TooShort
    count_at_8 e =
        let t = checked_at_8 e in
        let n = count_is t.0 in
        record {
          count_needed = n;
          more_than_lent = omega (arith, n, t.1);
          enough = λ room h. room_enough room t.0 (subst (λ (m : ℕ). m ≤ length room) n h);
          list_as_lent = search_refused c g s xs ys w depth lent (omega (arith, e));
        }

  -- ---- Every chamber that passes the checks is compared exactly: columns · dx and rows · dy are at most 2,560,000,000, far below 2 ^ 53

  inside_is : search_check c g s xs ys w depth ≡ 0 → (k : ℕ) → k < length xs → OnSite (get_or xs k (pos 0)) (get_or ys k (pos 0))
  inside_is e k h =
      let a = asked_facts c g s xs ys w depth e in
      let f = card_facts c a.sound.card in
      let x = all_along_lem (c.columns * c.dx) xs a.x_fits k h in
      let y = all_along_lem (c.rows * c.dy) ys a.y_fits k (omega (arith, a.same)) in
      record {
        x_whole = along_whole (c.columns * c.dx) (get_or xs k (pos 0)) x;
        y_whole = along_whole (c.rows * c.dy) (get_or ys k (pos 0)) y;
        x_small = omega (arith, along_high (c.columns * c.dx) (get_or xs k (pos 0)) x, reach_high f.columns_high f.dx_high);
        y_small = omega (arith, along_high (c.rows * c.dy) (get_or ys k (pos 0)) y, reach_high f.rows_high f.dy_high);
      }

  pub compared_exactly : search_check c g s xs ys w depth ≡ 0 → (k : ℕ) → k < length xs
      → is_listed k
      ≡ (exactly_inside w (nat_abs (get_or xs k (pos 0))) (nat_abs (get_or ys k (pos 0)))
      && le_z depth ((read_state c s).height (cell_along c.dx c.columns (get_or xs k (pos 0))) (cell_along c.dy c.rows (get_or ys k (pos 0)))))
  unfolding listed
  compared_exactly e k h = rw (on_site w (get_or xs k (pos 0)) (get_or ys k (pos 0)) (inside_is e k h))

  -- ---- A window with west above east, or south above north, lists nothing

  none_listed : search_check c g s xs ys w depth ≡ 0 → TurnedOver w → the_list ≡ []
  unfolding list_of listed
  none_listed e over = places_empty is_listed (length xs) (λ k h. rw (outside w (get_or xs k (pos 0)) (get_or ys k (pos 0)) (inside_is e k h) over))

  -- so the call is done whatever room it is lent, with the count 0, and leaves the list as lent
  pub record ListsNothing (lent : List ℕ) : Type 0 where
    pub nothing_listed : the_list ≡ []
    pub answer : search_answer c g s xs ys w depth lent ≡ record { number = 0; count = 0 }
    pub list_as_lent : search_found c g s xs ys w depth lent ≡ lent

  pub lists_nothing : (lent : List ℕ) → search_check c g s xs ys w depth ≡ 0 → TurnedOver w → ListsNothing lent
  unfolding search_answer
  lists_nothing lent e over =
      let none = none_listed e over in
      let number = room_enough lent e (rw none zero-le) in
      let zero_count : count lent ≡ 0 = count_is lent e ∙ ap length none in
      record {
        nothing_listed = none;
        answer = λ i. record { number = number i; count = zero_count i };
        list_as_lent = found_is lent number ∙ ap (λ (l : List ℕ). l ++ drop (length l) lent) none;
      }

-- ---- -0.0 is 0: a window that has the one for the other gets the same answer and leaves the same list

pub minus_zero : Float
minus_zero = of_bits binary64 0x8000000000000000

pub plus_zero : Float
plus_zero = of_bits binary64 0x0000000000000000

pub data SameEdge : Float → Float → Type 0 where
  same : (x : Float) → SameEdge x x
  signed_zero : SameEdge minus_zero plus_zero

pub record SameWindow (w v : Window) : Type 0 where
  pub west : SameEdge w.west v.west
  pub south : SameEdge w.south v.south
  pub east : SameEdge w.east v.east
  pub north : SameEdge w.north v.north

no_test_tells : {x y : Float} → SameEdge x y → Alike x y
no_test_tells (same x) = alike x
no_test_tells signed_zero = unfold minus_zero plus_zero of_bits in zero_alike _

same_finite : {x y : Float} → SameEdge x y → is_finite x ≡ is_finite y
same_finite (same x) = refl
same_finite signed_zero = unfold minus_zero plus_zero of_bits in refl

module _ {w v : Window} (m : SameWindow w v) where
  same_inside : (x y : ℤ) → inside w x y ≡ inside v x y
  unfolding inside
  same_inside x y =
      ap₂ ◌&&◌ (ap₂ ◌&&◌ ((no_test_tells m.west).low (as_float x)) ((no_test_tells m.east).high (as_float x))) (ap₂ ◌&&◌ ((no_test_tells m.south).low (as_float y)) ((no_test_tells m.north).high (as_float y)))

  same_edges : edges_finite w ≡ edges_finite v
  unfolding edges_finite
  same_edges = ap₂ ◌&&◌ (ap₂ ◌&&◌ (ap₂ ◌&&◌ (same_finite m.west) (same_finite m.south)) (same_finite m.east)) (same_finite m.north)

  module _ (c : Card) (g s xs ys : List ℤ) (depth : ℤ) where
    same_list : list_of c s w depth xs ys ≡ list_of c s v depth xs ys
    unfolding list_of listed
    same_list i = places (length xs) (λ k. same_inside (get_or xs k (pos 0)) (get_or ys k (pos 0)) i && le_z depth ((read_state c s).height (cell_along c.dx c.columns (get_or xs k (pos 0))) (cell_along c.dy c.rows (get_or ys k (pos 0)))))

    same_check : search_check c g s xs ys w depth ≡ search_check c g s xs ys v depth
    unfolding search_check asked_fits
    same_check = rw same_edges

    same_places : search_places c g s xs ys w depth ≡ search_places c g s xs ys v depth
    unfolding search_places
    same_places = rw (same_check, same_list)

    module _ (lent : List ℕ) where
      same_number : search_number c g s xs ys w depth lent ≡ search_number c g s xs ys v depth lent
      unfolding search_number
      same_number = rw (same_check, same_places)

      pub minus_zero_answer : search_answer c g s xs ys w depth lent ≡ search_answer c g s xs ys v depth lent
      unfolding search_answer
      minus_zero_answer = rw (same_number, same_places)

      pub minus_zero_list : search_found c g s xs ys w depth lent ≡ search_found c g s xs ys v depth lent
      unfolding search_found
      minus_zero_list = rw (same_number, same_places)
