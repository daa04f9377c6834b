-- Digits: those in front of a word, one after the other, and the number that they are.
use Rattle.std.specs.Prelude.{ℕ, suc, ◌+◌, ◌*◌, ◌-◌, ◌^◌, ◌≤◌, ◌<◌, ◌≡◌, refl, Bool, true, false, cond, ◌&&◌, length, get_or, leb, eqb}
use Rattle.std.proofs.Math.Path.{sym, ap}
use Rattle.std.proofs.Common.{◌∙◌, subst, arith, add-one, mul-one, pow-suc, add-zero, zero-add, add_assoc, add-mul, mul_assoc, drop_of_length-le, leb→le, ne_eqb}
use mathlib.Core.List.{List, [], ◌∷◌}
use Rattle.std.proofs.Math.Nat.{pow-succ', pow-le-pow_right}
use Rattle.std.proofs.Math.ListN.{drop}
use Rattle.std.proofs.Math.Seq.{drop-cons}
use Rattle.std.proofs.Math.Dec.{eqb-suc-suc}
use Rattle.rules.specs.Raster.{is_digit, digits_front, digits_rest, all_digits, number_behind, number_of}
use Rattle.laws.specs.Tests.{and_left, and_right, to_T, true_of}

-- ---- Digits from a place on, behind those that made a number

-- of a word of at most 19 bytes, of which those before `at` made no more than so many digits can
pub record Room (word : List ℕ) (at number : ℕ) : Type 0 where
  pub short : length word ≤ 19
  pub inside : at ≤ length word
  pub small : number < 10 ^ at

-- what they make, and where they end
pub record DigitsFrom (word : List ℕ) (at number made end : ℕ) : Type 0 where
  pub from : at ≤ end
  pub within : end ≤ length word
  pub ends : end ≡ at + length (digits_front (drop at word))
  pub is : made ≡ number_behind number (digits_front (drop at word))
  pub small : made < 10 ^ end

-- a loop over them, up to i, that has made n
pub record Reading (word : List ℕ) (at number n i : ℕ) : Type 0 where
  pub from : at ≤ i
  pub within : i ≤ length word
  pub ends : at + length (digits_front (drop at word)) ≡ i + length (digits_front (drop i word))
  pub is : number_behind number (digits_front (drop at word)) ≡ number_behind n (digits_front (drop i word))
  pub small : n < 10 ^ i

front_digit : (b : ℕ) (bs : List ℕ) → is_digit b ≡ true → digits_front (b ∷ bs) ≡ b ∷ digits_front bs
unfolding digits_front
front_digit b bs e = rw e

front_other : (b : ℕ) (bs : List ℕ) → is_digit b ≡ false → digits_front (b ∷ bs) ≡ []
unfolding digits_front
front_other b bs e = rw e

number_more : (n d : ℕ) (ds : List ℕ) → number_behind n (d ∷ ds) ≡ number_behind (n * 10 + (d - 48)) ds
unfolding number_behind
number_more n d ds = refl

pub digit_low : (b : ℕ) → is_digit b ≡ true → 48 ≤ b
digit_low b e = leb→le 48 b (and_left (leb 48 b) (leb b 57) (to_T e))

pub digit_high : (b : ℕ) → is_digit b ≡ true → b ≤ 57
digit_high b e = leb→le b 57 (and_right (leb 48 b) (leb b 57) (to_T e))

-- one digit more stays small, and so do 19 of them
longer_small : (n d i : ℕ) → n < 10 ^ i → d ≤ 9 → n * 10 + d < 10 ^ suc i
longer_small n d i h k = rw (pow-suc 10 i) (omega arith)

under_19 : (n i : ℕ) → i ≤ 19 → n < 10 ^ i → n < 10000000000000000000
under_19 n i h k = let up : 10 ^ i ≤ 10 ^ 19 = pow-le-pow_right {n = 10} (omega arith) {i = i} {j = 19} h in omega arith

module _ {word : List ℕ} {at number : ℕ} where
  pub read_none : Room word at number → Reading word at number number at
  read_none r = record { from = omega arith; within = r.inside; ends = refl; is = refl; small = r.small }

  pub read_more : {n i b : ℕ} → Reading word at number n i → i < length word → b ≡ get_or word i 0 → is_digit b ≡ true → Reading word at number (n * 10 + (b - 48)) (i + 1)
  read_more {n} {i} {b} r h e d =
      let from = r.from in
      let high = digit_high b d in
      let low = digit_low b d in
      let next : drop i word ≡ b ∷ drop (suc i) word = drop-cons word i 0 h ∙ ap (λ (x : ℕ). x ∷ drop (suc i) word) (sym e) in
      let front : digits_front (drop i word) ≡ b ∷ digits_front (drop (suc i) word) = ap digits_front next ∙ front_digit b (drop (suc i) word) d in
      record {
        from = omega arith;
        within = omega arith;
        ends = r.ends ∙ rw (front, add-one i) (omega arith);
        is = r.is ∙ rw (front, add-one i) (number_more n b (digits_front (drop (suc i) word)));
        small = rw (add-one i) (longer_small n (b - 48) i r.small (omega arith));
      }

  -- the number that is then made fits, and so does all on the way to it
  pub read_fits : {n i b : ℕ} → Reading word at number n i → i < length word → length word ≤ 19 → b ≡ get_or word i 0 → is_digit b ≡ true → n * 10 + (b - 48) < 10000000000000000000
  read_fits {n} {i} {b} r h short e d = under_19 (n * 10 + (b - 48)) (i + 1) (omega arith) (read_more r h e d).small

  pub read_stop : {n i b : ℕ} → Reading word at number n i → i < length word → b ≡ get_or word i 0 → is_digit b ≡ false → DigitsFrom word at number n i
  unfolding number_behind
  read_stop {n} {i} {b} r h e d =
      let next : drop i word ≡ b ∷ drop (suc i) word = drop-cons word i 0 h ∙ ap (λ (x : ℕ). x ∷ drop (suc i) word) (sym e) in
      let front : digits_front (drop i word) ≡ [] = ap digits_front next ∙ front_other b (drop (suc i) word) d in
      record {
        from = r.from;
        within = r.within;
        ends = sym (r.ends ∙ rw front (add-zero i));
        is = sym (r.is ∙ rw front);
        small = r.small;
      }

  pub read_all : {n i : ℕ} → Reading word at number n i → length word ≤ i → DigitsFrom word at number n (length word)
  unfolding number_behind digits_front
  read_all {n} {i} r h =
      let front : digits_front (drop i word) ≡ [] = ap digits_front (drop_of_length-le word h) in
      let within = r.within in
      let all : i ≡ length word = omega arith in
      subst (λ (k : ℕ). DigitsFrom word at number n k) all (record {
        from = r.from;
        within = within;
        ends = sym (r.ends ∙ rw front (add-zero i));
        is = sym (r.is ∙ rw front);
        small = r.small;
      })

-- ---- A word that is digits and nothing else

pub all_front : (ds : List ℕ) → all_digits ds ≡ eqb (length (digits_front ds)) (length ds)
unfolding all_digits digits_front
all_front [] = refl
all_front (b ∷ bs) = go (is_digit b) (all_front bs)
  where
    go : (t : Bool) → all_digits bs ≡ eqb (length (digits_front bs)) (length bs) → (t && all_digits bs) ≡ eqb (length (cond t (b ∷ digits_front bs) [])) (suc (length bs))
    go true e = e ∙ sym (eqb-suc-suc (length (digits_front bs)) (length bs))
    go false e = sym (ne_eqb 0 (suc (length bs)) (λ e'. absurd (omega arith)))

-- its first byte, and the others
pub digits_first : (b : ℕ) (bs : List ℕ) → all_digits (b ∷ bs) ≡ true → is_digit b ≡ true
unfolding all_digits
digits_first b bs e = true_of (is_digit b) (and_left (is_digit b) (all_digits bs) (to_T e))

pub digits_others : (b : ℕ) (bs : List ℕ) → all_digits (b ∷ bs) ≡ true → all_digits bs ≡ true
unfolding all_digits
digits_others b bs e = true_of (all_digits bs) (and_right (is_digit b) (all_digits bs) (to_T e))

pub front_all : (ds : List ℕ) → all_digits ds ≡ true → digits_front ds ≡ ds
unfolding digits_front
front_all [] e = refl
front_all (b ∷ bs) e = rw (digits_first b bs e) (ap (λ (l : List ℕ). b ∷ l) (front_all bs (digits_others b bs e)))

-- what stands behind the digits in front
pub rest_is : (w : List ℕ) → digits_rest w ≡ drop (length (digits_front w)) w
unfolding digits_front digits_rest
rest_is [] = refl
rest_is (b ∷ bs) = go (is_digit b) (rest_is bs)
  where
    go : (t : Bool) → digits_rest bs ≡ drop (length (digits_front bs)) bs → cond t (digits_rest bs) (b ∷ bs) ≡ drop (length (cond t (b ∷ digits_front bs) [])) (b ∷ bs)
    go true e = e
    go false e = refl

-- ---- Digits behind a number: it moves up by their places

moved_up : (n x k : ℕ) → (n * 10 + x) * 10 ^ k ≡ n * 10 ^ suc k + x * 10 ^ k
moved_up n x k =
    add-mul (n * 10) x (10 ^ k)
    ∙ ap (λ (m : ℕ). m + x * 10 ^ k) (mul_assoc n 10 (10 ^ k) ∙ ap (λ (m : ℕ). n * m) (sym (pow-succ' 10 k)))

pub number_behind_lem : (n : ℕ) (ds : List ℕ) → number_behind n ds ≡ n * 10 ^ length ds + number_of ds
unfolding number_of number_behind
number_behind_lem n [] = omega arith
number_behind_lem n (d ∷ ds) =
    number_behind_lem (n * 10 + (d - 48)) ds
    ∙ ap (λ (m : ℕ). m + number_behind 0 ds) (moved_up n (d - 48) (length ds))
    ∙ add_assoc (n * 10 ^ suc (length ds)) ((d - 48) * 10 ^ length ds) (number_behind 0 ds)
    ∙ ap (λ (m : ℕ). n * 10 ^ suc (length ds) + m) (sym (number_behind_lem (0 * 10 + (d - 48)) ds ∙ ap (λ (m : ℕ). m * 10 ^ length ds + number_behind 0 ds) (zero-add (d - 48))))

-- ---- What may stand behind digits that made a number

pub record Behind (word : List ℕ) (at number : ℕ) : Type 0 where
  pub short : length word ≤ 19
  pub inside : at ≤ length word
  pub few : at ≤ 12
  pub small : number < 10 ^ at

-- ---- A number of so many places behind the point, taken up to six, place by place

pub record Scaling (number places n k : ℕ) : Type 0 where
  pub from : places ≤ k
  pub most : k ≤ 6
  pub is : n ≡ number * 10 ^ (k - places)
  pub small : n < 10 ^ (13 + k)

module _ {number places : ℕ} where
  pub scale_none : places ≤ 6 → number < 10 ^ (13 + places) → Scaling number places number places
  scale_none h s = record { from = omega arith; most = h; is = sym (mul-one number) ∙ ap (λ (j : ℕ). number * 10 ^ j) e; small = s }
    where
      e : 0 ≡ places - places
      e = omega arith

  pub scale_more : {n k : ℕ} → Scaling number places n k → k < 6 → Scaling number places (n * 10) (k + 1)
  scale_more {n} {k} s h =
      let from = s.from in
      let up : k + 1 - places ≡ suc (k - places) = omega arith in
      let far : 13 + (k + 1) ≡ suc (13 + k) = omega arith in
      let small = s.small in
      record {
        from = omega arith;
        most = omega arith;
        is = ap (λ (m : ℕ). m * 10) s.is ∙ mul_assoc number (10 ^ (k - places)) 10 ∙ ap (λ (m : ℕ). number * m) (sym (pow-suc 10 (k - places))) ∙ ap (λ (j : ℕ). number * 10 ^ j) (sym up);
        small = rw (far, pow-suc 10 (13 + k)) (omega arith);
      }

  pub scale_all : {n k : ℕ} → Scaling number places n k → 6 ≤ k → n ≡ number * 10 ^ (6 - places)
  scale_all {n} {k} s h = s.is ∙ ap (λ (j : ℕ). number * 10 ^ (j - places)) e
    where
      e : k ≡ 6
      e = let m = s.most in omega arith

  pub scale_fits : {n k : ℕ} → Scaling number places n k → k < 6 → n * 10 < 10000000000000000000
  scale_fits {n} {k} s h =
      let up : 10 ^ (13 + k) ≤ 10 ^ 18 = pow-le-pow_right {n = 10} (omega arith) {i = 13 + k} {j = 18} (omega arith) in
      let small = s.small in
      omega arith
