-- The words of the text of a raster: its keys, each with its value, and then its values.
use Rattle.std.specs.Prelude.{ℕ, zero, suc, ◌%◌, ◌<◌, ◌≤◌, ◌≡◌, refl, Bool, true, false, cond, List, [], ◌∷◌, ◌++◌, map, ℤ, pos, length, get_or, take, eqb}
use Rattle.std.proofs.Common.{sym, ap, ◌∙◌, append-nil, append_assoc, arith, take-suc, take_all}
use Rattle.std.proofs.lemmas.List.{map-append}
use Rattle.rules.specs.declared.Card.{Card}
use Rattle.rules.specs.Site.{cells}
use Rattle.rules.specs.Text.{decimal}
use Rattle.rules.specs.Raster.{parts_words, ended, words_behind, words_of, ncols, nrows, xllcorner, yllcorner, cellsize, metres, signed_metres, key_line, key_lines, behind_value, value_texts, rows_turned, raster_text}
use Rattle.raster_laws.specs.Spelled.{unparted, words_spelled}
use Rattle.raster_laws.specs.Figures.{digits_unparted, decimal_digits, decimal_some}
use Rattle.raster_laws.specs.Metres.{metres_some, metres_unparted, signed_some, signed_unparted}
use Rattle.raster_laws.specs.Turned.{length-turned}

-- ---- A line: a key and its value

-- what is a word where it is written
record Spells (w : List ℕ) : Type 0 where
  some : 0 < length w
  whole : unparted w ≡ true

literal : {b : ℕ} {bs : List ℕ} → unparted (b ∷ bs) ≡ true → Spells (b ∷ bs)
literal e = record { some = omega arith; whole = e }

decimal_spells : (n : ℕ) → Spells (decimal n)
decimal_spells n = record { some = decimal_some n; whole = digits_unparted (decimal n) (decimal_digits n) }

metres_spell : (n : ℕ) → Spells (metres n)
metres_spell n = record { some = metres_some n; whole = metres_unparted n }

line_words : (key value rest : List ℕ) → Spells key → Spells value → words_of (key_line key value ++ rest) ≡ key ∷ value ∷ words_of rest
unfolding key_line parts_words
line_words key value rest k v =
    ap words_of (append_assoc key (32 ∷ (value ++ (10 ∷ []))) rest ∙ ap (λ (l : List ℕ). key ++ (32 ∷ l)) (append_assoc value (10 ∷ []) rest))
    ∙ words_spelled key 32 (value ++ (10 ∷ rest)) k.some k.whole refl
    ∙ ap (λ (ws : List (List ℕ)). key ∷ ws) (words_spelled value 10 rest v.some v.whole refl)

-- ---- The keys

-- the words of a raster without NODATA_value, its corner 0, in front of those of its values
abbrev pub written : (columns rows side : ℕ) (values : List (List ℕ)) → List (List ℕ)
written columns rows side values =
    ncols ∷ decimal columns ∷ nrows ∷ decimal rows ∷ xllcorner ∷ (48 ∷ []) ∷ yllcorner ∷ (48 ∷ []) ∷ cellsize ∷ metres side ∷ values

key_words : (c : Card) (rest : List ℕ) → words_of (key_lines c ++ rest) ≡ written c.columns c.rows c.dx (words_of rest)
unfolding key_lines unparted parts_words
key_words c rest =
    rw (append_assoc (key_line ncols (decimal c.columns)), append_assoc (key_line nrows (decimal c.rows)), append_assoc (key_line xllcorner (48 ∷ [])), append_assoc (key_line yllcorner (48 ∷ [])))
    (line_words ncols _ _ (literal refl) (decimal_spells c.columns)
    ∙ ap (λ (ws : List (List ℕ)). ncols ∷ decimal c.columns ∷ ws)
    (line_words nrows _ _ (literal refl) (decimal_spells c.rows)
    ∙ ap (λ (ws : List (List ℕ)). nrows ∷ decimal c.rows ∷ ws)
    (line_words xllcorner _ _ (literal refl) (literal refl)
    ∙ ap (λ (ws : List (List ℕ)). xllcorner ∷ (48 ∷ []) ∷ ws)
    (line_words yllcorner _ _ (literal refl) (literal refl)
    ∙ ap (λ (ws : List (List ℕ)). yllcorner ∷ (48 ∷ []) ∷ ws)
    (line_words cellsize _ _ (literal refl) (metres_spell c.dx))))))

-- ---- The values

-- a line feed or a blank stands behind each
value_parts : (columns k : ℕ) → parts_words (behind_value columns k) ≡ true
unfolding behind_value parts_words
value_parts columns k = go (eqb (suc (k % columns)) columns)
  where
    go : (t : Bool) → parts_words (cond t 10 32) ≡ true
    go true = refl
    go false = refl

value_words_lem : (columns : ℕ) (l : List ℤ) (n : ℕ) (rest : List ℕ) → n ≤ length l → words_of (value_texts columns l n ++ rest) ≡ map signed_metres (take n l) ++ words_of rest
unfolding value_texts
value_words_lem columns l zero rest h = refl
value_words_lem columns l (suc k) rest h =
    let z = get_or l k (pos 0) in
    let b = behind_value columns k in
    ap words_of (append_assoc (value_texts columns l k) (signed_metres z ++ (b ∷ [])) rest ∙ ap (λ (t : List ℕ). value_texts columns l k ++ t) (append_assoc (signed_metres z) (b ∷ []) rest))
    ∙ value_words_lem columns l k (signed_metres z ++ (b ∷ rest)) (omega arith)
    ∙ ap (λ (ws : List (List ℕ)). map signed_metres (take k l) ++ ws) (words_spelled (signed_metres z) b rest (signed_some z) (signed_unparted z) (value_parts columns k))
    ∙ sym (append_assoc (map signed_metres (take k l)) (signed_metres z ∷ []) (words_of rest))
    ∙ ap (λ (ws : List (List ℕ)). ws ++ words_of rest) (sym (ap (map signed_metres) (take-suc l k (pos 0) h) ∙ map-append signed_metres (take k l) (z ∷ [])))

-- all of a list, with nothing behind
values_written : (columns : ℕ) (l : List ℤ) (n : ℕ) → length l ≡ n → words_of (value_texts columns l n) ≡ map signed_metres l
unfolding words_of words_behind ended
values_written columns l n e =
    ap words_of (sym (append-nil (value_texts columns l n)))
    ∙ value_words_lem columns l n [] (omega arith)
    ∙ append-nil (map signed_metres (take n l))
    ∙ ap (map signed_metres) (take_all n l (omega arith))

pub words_written : (c : Card) (g : List ℤ) → words_of (raster_text c g) ≡ written c.columns c.rows c.dx (map signed_metres (rows_turned c.columns c.rows g))
unfolding raster_text
words_written c g =
    let l = rows_turned c.columns c.rows g in
    key_words c (value_texts c.columns l (cells c))
    ∙ ap (written c.columns c.rows c.dx) (values_written c.columns l (cells c) (length-turned c.columns c.rows g))
