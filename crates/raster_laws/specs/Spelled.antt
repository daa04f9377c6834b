-- A word spelled out at the front of a text: it is the text's first word where no byte of it parts words and the one behind it does.
use Rattle.std.specs.Prelude.{ℕ, ◌<◌, ◌≡◌, Bool, true, not, ◌&&◌, List, [], ◌∷◌, ◌++◌, length}
use Rattle.std.proofs.Common.{sym, ap, ap₂, ◌∙◌, append-nil}
use Rattle.std.proofs.Math.Seq.{append_snoc}
use Rattle.std.proofs.lemmas.Bool.{not-true}
use Rattle.rules.specs.Raster.{parts_words, words_behind, words_of}
use Rattle.laws.specs.Tests.{and_left, and_right, to_T, true_of}
use Rattle.raster_laws.specs.Words.{words_parted, words_longer, word_ends}

-- no byte parts words
unfoldable pub unparted : List ℕ → Bool
unparted [] = true
unparted (b ∷ bs) = not (parts_words b) && unparted bs

unparted_first : (b : ℕ) (bs : List ℕ) → unparted (b ∷ bs) ≡ true → not (parts_words b) ≡ true
unfolding unparted
unparted_first b bs e = true_of (not (parts_words b)) (and_left (not (parts_words b)) (unparted bs) (to_T e))

unparted_others : (b : ℕ) (bs : List ℕ) → unparted (b ∷ bs) ≡ true → unparted bs ≡ true
unfolding unparted
unparted_others b bs e = true_of (unparted bs) (and_right (not (parts_words b)) (unparted bs) (to_T e))

pub unparted_append : (v w : List ℕ) → unparted v ≡ true → unparted w ≡ true → unparted (v ++ w) ≡ true
unfolding unparted
unparted_append [] w e f = f
unparted_append (b ∷ bs) w e f = ap₂ ◌&&◌ (unparted_first b bs e) (unparted_append bs w (unparted_others b bs e) f)

-- such bytes go on with the word that has begun
begun_longer : (begun w rest : List ℕ) → unparted w ≡ true → words_behind begun (w ++ rest) ≡ words_behind (begun ++ w) rest
begun_longer begun [] rest e = ap (λ (v : List ℕ). words_behind v rest) (sym (append-nil begun))
begun_longer begun (b ∷ bs) rest e =
    words_longer begun b (bs ++ rest) (not-true (parts_words b) (unparted_first b bs e))
    ∙ begun_longer (begun ++ (b ∷ [])) bs rest (unparted_others b bs e)
    ∙ ap (λ (v : List ℕ). words_behind v rest) (append_snoc begun b bs)

pub words_spelled : (w : List ℕ) (b : ℕ) (rest : List ℕ) → 0 < length w → unparted w ≡ true → parts_words b ≡ true → words_of (w ++ (b ∷ rest)) ≡ w ∷ words_of rest
unfolding words_of
words_spelled w b rest h e p = begun_longer [] w (b ∷ rest) e ∙ word_ends w b rest h p ∙ ap (λ (ws : List (List ℕ)). w ∷ ws) (words_parted b rest p)
