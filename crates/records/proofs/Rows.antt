-- What is gathered of a row of at most 1,000 chambers is its two lists; and the search over it answers as the search over those, also where none was read.
use mathlib.Core.Path.{◌≡◌, refl, sym, ◌∙◌, ap}
use mathlib.Core.Bool.{Bool, true, false, ◌&&◌}
use mathlib.Core.List.{List, [], ◌∷◌, ◌++◌, map, map-append}
use Prim.Native.Nat.{ℕ, zero, suc, ◌+◌, ◌≤◌, ◌<◌, zero-le}
use native.Mathlib.Nat.{suc-ne-zero}
use native.Mathlib.Omega.{arith}
use lib.Dec.{leb, eqb, leb→le}
use lib.IntN.{ℤ, pos}
use lib.ListN.{length, get_or, take, drop, set, length-set, length-replicate, length-map, length-drop}
use lib.Seq.{take-suc, take-suc-set, take-set-le, drop-set-lt, drop-set-add, take-length, length-take-le}
use borrow.Author.Tests.{leb-true, leb-false}
use Rattle.rules.specs.declared.Card.{Card}
use Rattle.rules.specs.declared.Chamber.{Chamber}
use Rattle.rules.specs.declared.Window.{Window}
use Rattle.rules.specs.declared.Found.{Found}
use Rattle.rules.specs.Site.{card_fits, lengths_fit, first_of, if_done, check_also}
use Rattle.rules.specs.Search.{register_fits, xs_of, ys_of}
use Rattle.rules.specs.Calls.{search_check}
use Rattle.rules.specs.PublicContracts.{SearchContract, RowSearchContract}
use Rattle.laws.specs.Tests.{and_left, to_T}
use Rattle.laws.specs.Checks.{apart, by_front}
use Rattle.site.specs.Front.{front_also}
use Rattle.records.specs.Row.{none, put_at, gathered, to_read, Readable}
use Rattle.records.specs.Gathered.{GatheredAnswer}
use Rattle.search.proofs.Answers.{refused}

-- ---- the two parts of what is gathered

gathered_length : (row : List Chamber) (n : ℕ) → length (gathered row n) ≡ 2000
unfolding gathered put_at
gathered_length row zero = length-replicate 2000 (pos 0)
gathered_length row (suc n) = simp length-set (gathered_length row n)

-- one more number behind those of the first n chambers, whichever of the two numbers it is
one_more : (f : Chamber → ℤ) (row : List Chamber) (n : ℕ) (l : List ℤ) → n < length row → n < length l → take n l ≡ map f (take n row) → take (suc n) (set l n (f (get_or row n none))) ≡ map f (take (suc n) row)
one_more f row n l h k e =
    take-suc-set l n (f (get_or row n none)) k
    ∙ ap (λ (xs : List ℤ). xs ++ (f (get_or row n none) ∷ [])) e
    ∙ sym (map-append f (take n row) (get_or row n none ∷ []))
    ∙ ap (map f) (sym (take-suc row n none h))

front : (row : List Chamber) (n : ℕ) → n ≤ length row → n ≤ 1000 → take n (gathered row n) ≡ xs_of (take n row)
unfolding gathered put_at
front row zero h k = refl
front row (suc n) h k =
    let both = gathered row n in
    let c = get_or row n none in
    take-set-le (suc n) (set both n c.x) (1000 + n) c.y (omega arith)
    ∙ one_more (λ (c : Chamber). c.x) row n both (omega arith) (omega (arith, gathered_length row n)) (front row n (omega arith) (omega arith))

back : (row : List Chamber) (n : ℕ) → n ≤ length row → n ≤ 1000 → take n (drop 1000 (gathered row n)) ≡ ys_of (take n row)
unfolding gathered put_at
back row zero h k = refl
back row (suc n) h k =
    let both = gathered row n in
    let c = get_or row n none in
    ap (take (suc n)) (drop-set-add 1000 (set both n c.x) n c.y)
    ∙ ap (λ (l : List ℤ). take (suc n) (set l n c.y)) (drop-set-lt 1000 both n c.x (omega arith))
    ∙ one_more (λ (c : Chamber). c.y) row n (drop 1000 both) (omega arith) (rw (length-drop 1000 both) (omega (arith, gathered_length row n))) (back row n (omega arith) (omega arith))

gathered_xs : (row : List Chamber) → length row ≤ 1000 → take (length row) (gathered row (length row)) ≡ xs_of row
gathered_xs row k = front row (length row) (omega arith) k ∙ ap xs_of (take-length row)

gathered_ys : (row : List Chamber) → length row ≤ 1000 → take (length row) (drop 1000 (gathered row (length row))) ≡ ys_of row
gathered_ys row k = back row (length row) (omega arith) k ∙ ap ys_of (take-length row)

-- ---- how many are read

module _ (c : Card) (g s : List ℤ) where
  few_passed : (n : ℕ) → front_also true (leb n 1000) c g s ≡ 0 → n ≤ 1000
  unfolding front_also
  few_passed n e =
      let p = apart (card_fits c) (leb n 1000 && lengths_fit c g s) true e in
      leb→le n 1000 (and_left (leb n 1000) (lengths_fit c g s) (to_T p.lengths))

  pub readable : (row : List Chamber) → Readable row (to_read c g s (length row))
  unfolding to_read if_done
  readable row = go (front_also true (leb (length row) 1000) c g s) refl
    where
      go : (k : ℕ) → front_also true (leb (length row) 1000) c g s ≡ k → Readable row (if_done k (length row) 0)
      go zero e = record { most = omega arith; few = few_passed (length row) e }
      go (suc k) e = record { most = zero-le; few = zero-le }

-- ---- the answer

-- where the front refuses, one test more for 2 changes nothing
early : (a e f l v : Bool) (k : ℕ) → k ≡ first_of a (f && l) true → (k ≡ 0 → ⊥) → first_of a ((e && f) && l) v ≡ k
unfolding first_of
early false e f l v k p h = sym p
early true true f l v k p h = by_front true (f && l) v k p h
early true false false l v k p h = sym p
early true false true false v k p h = sym p
early true false true true v k p h = absurd (h p)

module _ (c : Card) (g s : List ℤ) (w : Window) (depth : ℤ) (lent : List ℕ) where
  -- then the answer does not hang on the chambers
  refused_early : (xs ys : List ℤ) (k : ℕ) → k ≡ front_also true (leb (length xs) 1000) c g s → (k ≡ 0 → ⊥) → SearchContract c g s xs ys w depth lent (record { number = k; count = 0 }) lent
  unfolding search_check check_also register_fits front_also
  refused_early xs ys k e h =
      refused c g s xs ys w depth lent k (sym (early (card_fits c) (eqb (length xs) (length ys)) (leb (length xs) 1000) (lengths_fit c g s) _ k e h)) h

  module _ (r : Found) (left : List ℕ) (row : List Chamber) where
    abbrev n : ℕ
    n = length row

    abbrev both : List ℤ
    both = gathered row (to_read c g s n)

    abbrev number : ℕ
    number = front_also true (leb n 1000) c g s

    -- every chamber was read
    read : number ≡ 0 → n ≤ 1000 → GatheredAnswer c g s both n w depth lent r left → RowSearchContract c g s row w depth lent r left
    unfolding to_read if_done
    read e k a = rw (← gathered_xs row k, ← gathered_ys row k) (rw e at (a.few k))

    -- none was: the number stands before any is looked at
    unread : (number ≡ 0 → ⊥) → GatheredAnswer c g s both n w depth lent r left → RowSearchContract c g s row w depth lent r left
    unread h a = go (leb n 1000) refl
      where
        own : SearchContract c g s (xs_of row) (ys_of row) w depth lent (record { number = number; count = 0 }) lent
        own = refused_early (xs_of row) (ys_of row) number (rw (length-map row (λ (c : Chamber). c.x)) refl) h

        go : (t : Bool) → leb n 1000 ≡ t → RowSearchContract c g s row w depth lent r left
        go true f =
            let few = a.few (leb-true n 1000 f) in
            let long : length (take n both) ≡ n = length-take-le n both (omega (arith, gathered_length row (to_read c g s n), leb-true n 1000 f)) in
            let its = refused_early (take n both) (take n (drop 1000 both)) number (ap (λ (m : ℕ). front_also true (leb m 1000) c g s) (sym long)) h in
            record { answer = few.answer ∙ sym its.answer ∙ own.answer; found_exit = few.found_exit ∙ sym its.found_exit ∙ own.found_exit }
        go false f =
            let many = a.many (leb-false n 1000 f) in
            record { answer = many.0 ∙ ap (λ (b : Bool). record { number = front_also true b c g s; count = 0 }) (sym f) ∙ own.answer; found_exit = many.1 ∙ own.found_exit }

    pub row_answers : GatheredAnswer c g s both n w depth lent r left → RowSearchContract c g s row w depth lent r left
    row_answers a = go number refl
      where
        go : (k : ℕ) → number ≡ k → RowSearchContract c g s row w depth lent r left
        go zero e = read e (few_passed c g s n e) a
        go (suc k) e = unread (λ z. suc-ne-zero k (sym e ∙ z)) a
