-- The words of a text, met from a place on: what is passed over before the next word, and that word with those behind it.
use Rattle.std.specs.Prelude.{ℕ, zero, suc, Bool, not, ◌+◌, ◌-◌, ◌≤◌, ◌<◌, ◌≡◌, refl, true, false, length, get_or, drop, ltb}
use Rattle.std.specs.List.{prefix_len, take_while}
use Rattle.std.proofs.Common.{sym, ◌∙◌, subst, add-zero, add-one, ltb-true, ltb-false, drop_of_length-le, length-drop, drop-cons, take-suc, get_or-drop, length-take-le}
use Rattle.std.proofs.Math.Path.{ap}
use mathlib.Core.List.{List, [], ◌∷◌, ◌++◌}
use native.Mathlib.Omega.{arith}
use Rattle.std.proofs.Math.ListN.{take}
use Rattle.std.proofs.lemmas.Bool.{not-true, not-false}
use Rattle.std.proofs.lemmas.List.Folds.{length-prefix_len}
use Rattle.std.proofs.lemmas.List.Sums.{prefix_len-drop_yes, prefix_len-le-length, prefix_len_passes, prefix_len_stops}
use Rattle.rules.specs.Raster.{parts_words, ended, words_behind, words_of, word}

-- ---- What is passed over before a word

-- from `at` on, `start` is where the next word begins, or the end of the text
pub record Skipped (text : List ℕ) (at start : ℕ) : Type 0 where
  pub from : at ≤ start
  pub within : start ≤ length text
  pub words : words_of (drop start text) ≡ words_of (drop at text)
  pub begins : start < length text → parts_words (get_or text start 0) ≡ false

-- the bytes up to i are passed over
pub record Skipping (text : List ℕ) (at i : ℕ) : Type 0 where
  pub from : at ≤ i
  pub within : i ≤ length text
  pub words : words_of (drop i text) ≡ words_of (drop at text)

pub words_parted : (b : ℕ) (text : List ℕ) → parts_words b ≡ true → words_of (b ∷ text) ≡ words_of text
unfolding words_of words_behind ended
words_parted b text e = rw e

module _ {text : List ℕ} {at : ℕ} where
  pub skip_none : at ≤ length text → Skipping text at at
  skip_none h = record { from = omega arith; within = h; words = refl }

  pub skip_more : {i : ℕ} → Skipping text at i → i < length text → parts_words (get_or text i 0) ≡ true → Skipping text at (i + 1)
  skip_more {i} s h e = record {
    from = (let f = s.from in omega arith);
    within = omega arith;
    words =
        ap (λ (n : ℕ). words_of (drop n text)) (add-one i)
        ∙ sym (words_parted (get_or text i 0) (drop (suc i) text) e)
        ∙ sym (ap words_of (drop-cons text i 0 h))
        ∙ s.words;
  }

  pub skip_stop : {i : ℕ} → Skipping text at i → parts_words (get_or text i 0) ≡ false → Skipped text at i
  skip_stop s e = record { from = s.from; within = s.within; words = s.words; begins = λ h. e }

  pub skip_all : {i : ℕ} → Skipping text at i → length text ≤ i → Skipped text at i
  skip_all {i} s h = record { from = s.from; within = s.within; words = s.words; begins = λ l. absurd (omega arith) }

-- at the end there is no word
pub no_words : (text : List ℕ) (at : ℕ) → length text ≤ at → words_of (drop at text) ≡ []
unfolding words_of words_behind ended
no_words text at h = ap words_of (drop_of_length-le text h)

-- ---- A word

-- a word begins at `at`
pub record WordAt (text : List ℕ) (at : ℕ) : Type 0 where
  pub inside : at < length text
  pub begins : parts_words (get_or text at 0) ≡ false

-- the bytes from `at` up to `end`
abbrev pub between : (text : List ℕ) (at end : ℕ) → List ℕ
between text at end = take (end - at) (drop at text)

-- and ends before `end`, where the other words follow
pub record Word (text : List ℕ) (at end : ℕ) : Type 0 where
  pub behind : at < end
  pub within : end ≤ length text
  pub words : words_of (drop at text) ≡ between text at end ∷ words_of (drop end text)

-- the bytes up to i are a word's
pub record Spelling (text : List ℕ) (at i : ℕ) : Type 0 where
  pub behind : at < i
  pub within : i ≤ length text
  pub words : words_of (drop at text) ≡ words_behind (between text at i) (drop i text)

pub words_longer : (begun : List ℕ) (b : ℕ) (text : List ℕ) → parts_words b ≡ false → words_behind begun (b ∷ text) ≡ words_behind (begun ++ (b ∷ [])) text
unfolding words_behind
words_longer begun b text e = rw e

-- a byte more of a part
between_more : (text : List ℕ) (at i : ℕ) → at ≤ i → i < length text → between text at i ++ (get_or text i 0 ∷ []) ≡ between text at (suc i)
between_more text at i h l =
    ap (λ (n : ℕ). take (i - at) (drop at text) ++ (get_or text n 0 ∷ [])) (let e : i ≡ at + (i - at) = omega arith in e)
    ∙ ap (λ (b : ℕ). take (i - at) (drop at text) ++ (b ∷ [])) (sym (get_or-drop at text (i - at) 0))
    ∙ sym (take-suc (drop at text) (i - at) 0 (omega (arith, length-drop at text)))
    ∙ ap (λ (n : ℕ). take n (drop at text)) (let e : suc (i - at) ≡ suc i - at = omega arith in e)

length_between : (text : List ℕ) (at i : ℕ) → i ≤ length text → length (between text at i) ≡ i - at
length_between text at i h = length-take-le (i - at) (drop at text) (omega (arith, length-drop at text))

-- a word that has begun ends at the text's end, and before a byte that parts words
ended_some : (w : List ℕ) (ws : List (List ℕ)) → 0 < length w → ended w ws ≡ w ∷ ws
unfolding ended
ended_some [] ws h = absurd (omega arith)
ended_some (b ∷ bs) ws h = refl

pub word_ends : (w : List ℕ) (b : ℕ) (text : List ℕ) → 0 < length w → parts_words b ≡ true → words_behind w (b ∷ text) ≡ w ∷ words_of (b ∷ text)
unfolding words_behind words_of ended
word_ends w b text h e = rw e (ended_some w (words_behind [] text) h)

word_ends_last : (w : List ℕ) → 0 < length w → words_behind w [] ≡ w ∷ words_of []
unfolding words_behind words_of ended
word_ends_last w h = ended_some w [] h

module _ {text : List ℕ} {at : ℕ} where
  pub spell_one : WordAt text at → Spelling text at (at + 1)
  unfolding words_of
  spell_one w =
      let inside = w.inside in
      record {
        behind = omega arith;
        within = omega arith;
        words =
            ap (words_behind []) (drop-cons text at 0 inside)
            ∙ words_longer [] (get_or text at 0) (drop (suc at) text) w.begins
            ∙ ap (λ (v : List ℕ). words_behind v (drop (suc at) text)) (ap (λ (v : List ℕ). v ++ (get_or text at 0 ∷ [])) (sym none) ∙ between_more text at at (omega arith) inside)
            ∙ ap (λ (n : ℕ). words_behind (between text at n) (drop n text)) (sym (add-one at));
      }
    where
      none : between text at at ≡ []
      none = ap (λ (n : ℕ). take n (drop at text)) (let e : at - at ≡ 0 = omega arith in e)

  pub spell_more : {i : ℕ} → Spelling text at i → i < length text → parts_words (get_or text i 0) ≡ false → Spelling text at (i + 1)
  spell_more {i} s h e =
      let behind = s.behind in
      record {
        behind = omega arith;
        within = omega arith;
        words =
            s.words
            ∙ ap (words_behind (between text at i)) (drop-cons text i 0 h)
            ∙ words_longer (between text at i) (get_or text i 0) (drop (suc i) text) e
            ∙ ap (λ (v : List ℕ). words_behind v (drop (suc i) text)) (between_more text at i (omega arith) h)
            ∙ ap (λ (n : ℕ). words_behind (between text at n) (drop n text)) (sym (add-one i));
      }

  pub spell_stop : {i : ℕ} → Spelling text at i → i < length text → parts_words (get_or text i 0) ≡ true → Word text at i
  spell_stop {i} s h e =
      let behind = s.behind in
      record {
        behind = behind;
        within = s.within;
        words =
            s.words
            ∙ ap (words_behind (between text at i)) (drop-cons text i 0 h)
            ∙ word_ends (between text at i) (get_or text i 0) (drop (suc i) text) (omega (arith, length_between text at i s.within)) e
            ∙ ap (λ (l : List ℕ). between text at i ∷ words_of l) (sym (drop-cons text i 0 h));
      }

  pub spell_all : {i : ℕ} → Spelling text at i → length text ≤ i → Word text at i
  spell_all {i} s h =
      let behind = s.behind in
      record {
        behind = behind;
        within = s.within;
        words =
            s.words
            ∙ ap (words_behind (between text at i)) (drop_of_length-le text h)
            ∙ word_ends_last (between text at i) (omega (arith, length_between text at i s.within))
            ∙ ap (λ (l : List ℕ). between text at i ∷ words_of l) (sym (drop_of_length-le text h));
      }

-- ---- Both, by how many bytes at the front part words, or do not

-- so many bytes from a place on pass a test
module _ (test : ℕ → Bool) (text : List ℕ) (at : ℕ) where
  abbrev front : ℕ
  front = prefix_len test (drop at text)

  front_within : at ≤ length text → at + front ≤ length text
  front_within h = omega (arith, prefix_len-le-length test (drop at text), length-drop at text)

  front_passes : (k : ℕ) → k < front → test (get_or text (at + k) 0) ≡ true
  front_passes k h = sym (ap test (get_or-drop at text k 0)) ∙ prefix_len_passes test (drop at text) k 0 h

  front_stops : at + front < length text → test (get_or text (at + front) 0) ≡ false
  front_stops h = sym (ap test (get_or-drop at text front 0)) ∙ prefix_len_stops test (drop at text) 0 (omega (arith, length-drop at text))

module _ (text : List ℕ) (at : ℕ) (h : at ≤ length text) where
  skip_front : (k : ℕ) → k ≤ front parts_words text at → Skipping text at (at + k)
  skip_front zero l = subst (Skipping text at) (sym (add-zero at)) (record { from = omega arith; within = h; words = refl })
  skip_front (suc k) l =
      subst (Skipping text at) (let e : at + k + 1 ≡ at + suc k = omega arith in e)
      (skip_more (skip_front k (omega arith)) (omega (arith, front_within parts_words text at h)) (front_passes parts_words text at k (omega arith)))

  pub skip_over : {n : ℕ} → n ≡ length (take_while parts_words (drop at text)) → Skipped text at (at + n)
  skip_over {n} e =
      let s = skip_front (front parts_words text at) (omega arith) in
      subst (λ (k : ℕ). Skipped text at (at + k)) (sym (e ∙ length-prefix_len parts_words (drop at text)))
      (record { from = s.from; within = s.within; words = s.words; begins = front_stops parts_words text at })

module _ (text : List ℕ) (at : ℕ) (w : WordAt text at) where
  abbrev spells : ℕ → Bool
  spells b = not (parts_words b)

  parts_not : (b : ℕ) → spells b ≡ true → parts_words b ≡ false
  parts_not b e = not-true (parts_words b) e

  parts_yes : (b : ℕ) → spells b ≡ false → parts_words b ≡ true
  parts_yes b e = not-false (parts_words b) e

  spell_front : (k : ℕ) → k < front spells text at → Spelling text at (at + suc k)
  spell_front zero l = spell_one w
  spell_front (suc k) l =
      let inside = w.inside in
      subst (Spelling text at) (let e : at + suc k + 1 ≡ at + suc (suc k) = omega arith in e)
      (spell_more (spell_front k (omega arith)) (omega (arith, front_within spells text at (omega arith))) (parts_not _ (front_passes spells text at (suc k) l)))

  spell_all_front : (k : ℕ) → front spells text at ≡ suc k → Word text at (at + suc k)
  spell_all_front k e = go (ltb (at + suc k) (length text)) refl
    where
      s : Spelling text at (at + suc k)
      s = spell_front k (omega arith)

      go : (t : Bool) → ltb (at + suc k) (length text) ≡ t → Word text at (at + suc k)
      go true l =
          let inside = ltb-true (at + suc k) (length text) l in
          spell_stop s inside (subst (λ (n : ℕ). parts_words (get_or text (at + n) 0) ≡ true) e (parts_yes _ (front_stops spells text at (omega (arith, e)))))
      go false l = spell_all s (ltb-false (at + suc k) (length text) l)

  pub spell_out : {n : ℕ} → n ≡ length (take_while spells (drop at text)) → Word text at (at + n)
  spell_out {n} e =
      let some = prefix_len-drop_yes spells text at 0 w.inside (ap not w.begins) in
      let all : front spells text at ≡ suc (prefix_len spells (drop (at + 1) text)) = omega (arith, some) in
      subst (λ (k : ℕ). Word text at (at + k)) (sym (e ∙ length-prefix_len spells (drop at text) ∙ all)) (spell_all_front (prefix_len spells (drop (at + 1) text)) all)

-- ---- The first word from a place on, and those behind it

pub record Next (text : List ℕ) (at start end : ℕ) : Type 0 where
  pub from : at ≤ start
  pub order : start ≤ end
  pub within : end ≤ length text
  pub is : between text start end ≡ word (words_of (drop at text)) 0
  pub rest : words_of (drop end text) ≡ drop 1 (words_of (drop at text))

module _ {text : List ℕ} {at start : ℕ} (s : Skipped text at start) where
  pub starts : (start ≡ length text → ⊥) → WordAt text start
  starts n = let w = s.within in record { inside = omega arith; begins = s.begins (omega arith) }

  pub next_none : start ≡ length text → Next text at start start
  next_none e =
      let none : words_of (drop start text) ≡ [] = no_words text start (omega arith) in
      let same : words_of (drop at text) ≡ [] = sym s.words ∙ none in
      record {
        from = s.from;
        order = omega arith;
        within = s.within;
        is = ap (λ (n : ℕ). take n (drop start text)) (let z : start - start ≡ 0 = omega arith in z) ∙ sym (ap (λ (ws : List (List ℕ)). word ws 0) same);
        rest = none ∙ sym (ap (drop 1) same);
      }

  pub next_some : {end : ℕ} → Word text start end → Next text at start end
  next_some {end} w =
      let words : words_of (drop at text) ≡ between text start end ∷ words_of (drop end text) = sym s.words ∙ w.words in
      record {
        from = s.from;
        order = (let b = w.behind in omega arith);
        within = w.within;
        is = sym (ap (λ (ws : List (List ℕ)). word ws 0) words);
        rest = sym (ap (drop 1) words);
      }
