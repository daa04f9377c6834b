-- Document 01, "The sheet player": what it prints for any bytes on standard input, in ASCII.
use Rattle.std.specs.Prelude.{ℕ, zero, suc, cond, ◌&&◌, List, [], ◌∷◌, ◌++◌, length, ℤ, nat_abs, leb, eqb}
use Rattle.rules.specs.declared.Card.{Card}
use Rattle.rules.specs.Site.{cells, state_length, read_state, first_refusal, if_done}
use Rattle.rules.specs.Run.{Progress, Outcome, run}
use Rattle.rules.specs.Sheet.{card_in, ground_in, state_in, read_number}
use Rattle.rules.specs.Text.{decimal, depth_text}

-- "steps ", " reason ", " top ", "refused ", ", " and a line feed
abbrev pub steps_word : List ℕ
steps_word = 115 ∷ 116 ∷ 101 ∷ 112 ∷ 115 ∷ 32 ∷ []

abbrev pub reason_word : List ℕ
reason_word = 32 ∷ 114 ∷ 101 ∷ 97 ∷ 115 ∷ 111 ∷ 110 ∷ 32 ∷ []

abbrev pub top_word : List ℕ
top_word = 32 ∷ 116 ∷ 111 ∷ 112 ∷ 32 ∷ []

abbrev pub refused_word : List ℕ
refused_word = 114 ∷ 101 ∷ 102 ∷ 117 ∷ 115 ∷ 101 ∷ 100 ∷ 32 ∷ []

abbrev pub comma : List ℕ
comma = 44 ∷ 32 ∷ []

abbrev pub line_feed : List ℕ
line_feed = 10 ∷ []

-- a word and a number
unfoldable pub labelled : (word : List ℕ) → ℕ → List ℕ
labelled word n = word ++ decimal n

-- `refused`, a space and a number
unfoldable pub refused_line : ℕ → List ℕ
refused_line k = labelled refused_word k ++ line_feed

-- steps done, reason and top in µm
unfoldable pub tally_line : Progress → List ℕ
tally_line t = labelled steps_word t.steps ++ (labelled reason_word t.reason ++ (labelled top_word (nat_abs t.top) ++ line_feed))

-- the depth text of a cell, with a comma and a space before it unless it is the first of its row
unfoldable pub cell_text : Card → (state : List ℤ) → (i j : ℕ) → List ℕ
cell_text c s i j = cond (eqb i 0) [] comma ++ depth_text ((read_state c s).height i j)

-- the first n depth texts of row j
unfoldable pub row_texts : Card → (state : List ℤ) → (j n : ℕ) → List ℕ
row_texts c s j zero = []
row_texts c s j (suc i) = row_texts c s j i ++ cell_text c s i j

-- a line for each of the first n rows, south first
unfoldable pub row_lines : Card → (state : List ℤ) → ℕ → List ℕ
row_lines c s zero = []
row_lines c s (suc j) = row_lines c s j ++ (row_texts c s j c.columns ++ line_feed)

-- how far a run came, and the rows of the state that it ends in
unfoldable pub played_text : Card → Outcome → List ℕ
played_text c o = tally_line o.progress ++ row_lines c o.state c.rows

-- the run of a sheet, which has no pumps
unfoldable pub played : (sheet : List ℕ) → List ℕ
played l = played_text (card_in l) (run (card_in l) (ground_in l) (state_in l))

-- the reader's own number, its lists cut to the header's size
unfoldable pub own_number : (input : List ℕ) → ℕ
own_number l = read_number l (cells (card_in l)) (state_length (card_in l))

-- 8 for input over 16,659 bytes; else the reader's own; else 8 where columns or rows exceed 32
unfoldable pub play_number : (input : List ℕ) → ℕ
play_number l = cond (leb (length l) 16659) (first_refusal (own_number l) (cond (leb (card_in l).columns 32 && leb (card_in l).rows 32) 0 8)) 8

-- where the sheet isn't run, one line with the number
unfoldable pub printed : (input : List ℕ) → List ℕ
printed l = if_done (play_number l) (played l) (refused_line (play_number l))
