-- A word that is a key: as long, and byte by byte the same in small letters.
use Rattle.std.specs.Prelude.{ℕ, ◌+◌, ◌≤◌, ◌≡◌, refl, Bool, true, false, cond, ◌&&◌, List, [], ◌∷◌, length, leb, eqb}
use Rattle.std.specs.List.{zip, list_all}
use Rattle.std.proofs.Common.{sym, ap, ◌∙◌, arith, eq-eqb, ne_eqb, leb→le}
use Rattle.std.proofs.Math.Dec.{eqb-suc-suc}
use Rattle.rules.specs.Site.{within}
use Rattle.rules.specs.Raster.{lower, is_key}
use Rattle.laws.specs.Tests.{and_right, to_T}

-- a capital letter, and any other byte
pub lower_letter : (b : ℕ) → within 65 90 b ≡ true → b + 32 ≡ lower b
unfolding lower
lower_letter b e = sym (ap (λ (t : Bool). cond t (b + 32) b) e)

pub lower_other : (b : ℕ) → within 65 90 b ≡ false → b ≡ lower b
unfolding lower
lower_other b e = sym (ap (λ (t : Bool). cond t (b + 32) b) e)

pub letter_high : (b : ℕ) → within 65 90 b ≡ true → b ≤ 90
letter_high b e = leb→le b 90 (and_right (leb 65 b) (leb b 90) (to_T e))

-- a byte of a key, and one of a word
abbrev pub same_letter : ℕ × ℕ → Bool
same_letter p = eqb (lower p.1) p.0

key_letters : (key word : List ℕ) → (eqb (length key) (length word) && list_all same_letter (zip key word)) ≡ is_key key word
unfolding is_key
key_letters [] [] = refl
key_letters [] (b ∷ bs) = ap (λ (t : Bool). t && true) (ne_eqb 0 (length (b ∷ bs)) (λ e. absurd (omega arith)))
key_letters (k ∷ ks) [] = ap (λ (t : Bool). t && true) (ne_eqb (length (k ∷ ks)) 0 (λ e. absurd (omega arith)))
key_letters (k ∷ ks) (b ∷ bs) =
    ap (λ (t : Bool). t && (eqb (lower b) k && list_all same_letter (zip ks bs))) (eqb-suc-suc (length ks) (length bs))
    ∙ swap (eqb (length ks) (length bs)) (eqb (lower b) k) (list_all same_letter (zip ks bs))
    ∙ ap (λ (t : Bool). eqb (lower b) k && t) (key_letters ks bs)
  where
    swap : (s t u : Bool) → (s && (t && u)) ≡ (t && (s && u))
    swap true true u = refl
    swap true false u = refl
    swap false true u = refl
    swap false false u = refl

pub other_length : (key word : List ℕ) → (length key ≡ length word → ⊥) → false ≡ is_key key word
other_length key word n = sym (ap (λ (t : Bool). t && list_all same_letter (zip key word)) (ne_eqb (length key) (length word) n)) ∙ key_letters key word

pub same_length : (key word : List ℕ) → length key ≡ length word → list_all same_letter (zip key word) ≡ is_key key word
same_length key word e = sym (ap (λ (t : Bool). t && list_all same_letter (zip key word)) (eq-eqb (length key) (length word) e)) ∙ key_letters key word
