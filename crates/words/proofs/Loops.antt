-- One turn of each loop over words.
use Prim.Native.Nat.{ℕ, suc, ◌+◌, ◌*◌, ◌<◌, ◌≤◌}
use mathlib.Core.Path.{◌≡◌, sym, ap, ap₂, ◌∙◌}
use mathlib.Core.List.{List, [], ◌∷◌, ◌++◌, append_assoc, append-nil}
use native.Mathlib.Numerals.{add-one}
use native.Mathlib.Omega.{arith}
use lib.IntN.{ℤ, pos}
use lib.ListN.{length, take, drop, get_or, set}
use lib.Seq.{drop-cons, drop-drop, drop-length, set_at, take_all, length-take-le}
use Rattle.rules.specs.Sheet.{bytes_of, number_in, bits_of, value_of, words_in, words_bytes}
use Rattle.laws.specs.Laid.{laid, laid_none, laid_laid}
use Rattle.laws.specs.Words.{word_at, length_in, in_more, in_none, length_words, words_more, words_none}

-- ---- get_words: the first i words are read; old is the list that was lent

pub in_start : (old : List ℤ) (l : List ℕ) → old ≡ words_in 0 l ++ drop 0 old
in_start old l = ap (λ (r : List ℤ). r ++ old) (sym (in_none l))

pub in_turn : (old words : List ℤ) (i at : ℕ) (s : List ℕ) (w : ℤ) → i < length old → words ≡ words_in i (drop at s) ++ drop i old → w ≡ word_at s at i
    → set words i w ≡ words_in (i + 1) (drop at s) ++ drop (i + 1) old
unfolding word_at
in_turn old words i at s w h p e =
    let l = drop at s in
    let f : w ≡ value_of (number_in 4 (drop (4 * i) l)) = e ∙ ap (λ (r : List ℕ). value_of (number_in 4 r)) (sym (drop-drop (4 * i) at s)) in
    ap (λ (r : List ℤ). set r i w) p
    ∙ ap (λ (r : List ℤ). set (words_in i l ++ r) i w) (drop-cons old i (pos 0) h)
    ∙ set_at (words_in i l) _ _ w i (length_in i l)
    ∙ ap (λ (x : ℤ). words_in i l ++ (x ∷ drop (suc i) old)) f
    ∙ sym (append_assoc (words_in i l) (value_of (number_in 4 (drop (4 * i) l)) ∷ []) (drop (suc i) old))
    ∙ ap₂ (λ (x : List ℤ) (k : ℕ). x ++ drop k old) (sym (in_more i l)) (sym (add-one i))

pub in_end : (old : List ℤ) (i : ℕ) (l : List ℕ) → i ≡ length old → words_in i l ++ drop i old ≡ words_in (length old) l
in_end old i l e =
    ap (λ (n : ℕ). words_in n l ++ drop n old) e ∙ ap (λ (r : List ℤ). words_in (length old) l ++ r) (drop-length old) ∙ append-nil (words_in (length old) l)

-- ---- put_words: the first i words are laid

pub words_start : (old : List ℕ) (at : ℕ) (zs : List ℤ) → old ≡ laid old at (words_bytes (take 0 zs))
words_start old at zs = sym (ap (laid old at) words_none ∙ laid_none old at)

pub words_turn : (zs : List ℤ) (old out new : List ℕ) (at i b : ℕ) → i < length zs → at + 4 * length zs ≤ length old → out ≡ laid old at (words_bytes (take i zs)) → b ≡ bits_of (get_or zs i (pos 0))
    → new ≡ laid out (at + 4 * i) (bytes_of 4 b)
    → new ≡ laid old at (words_bytes (take (i + 1) zs))
words_turn zs old out new at i b h k e p q =
    let x = words_bytes (take i zs) in
    let j : at + 4 * i ≡ at + length x = rw (length_words (take i zs), length-take-le i zs (omega arith)) in
    let m : at + 4 * i ≤ length old = omega arith in
    q
    ∙ ap₂ (λ (l : List ℕ) (d : ℕ). laid l (at + 4 * i) (bytes_of 4 d)) e p
    ∙ laid_laid old at x (bytes_of 4 (bits_of (get_or zs i (pos 0)))) (at + 4 * i) j m
    ∙ ap (laid old at) (sym (words_more zs i h))

pub words_end : (zs : List ℤ) (old out : List ℕ) (at i : ℕ) → length zs ≤ i → out ≡ laid old at (words_bytes (take i zs)) → out ≡ laid old at (words_bytes zs)
words_end zs old out at i h e = e ∙ ap (λ (l : List ℤ). laid old at (words_bytes l)) (take_all i zs h)
