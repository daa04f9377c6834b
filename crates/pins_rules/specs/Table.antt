-- Document 02, [13]: the pin table, a list of 64 words, one for each place. Two crews put pins on chambers in it.
use Rattle.std.specs.Prelude.{ℕ, ◌+◌, ◌*◌, ◌/◌, ◌%◌, Bool, true, false, cond, not, ◌&&◌, ◌||◌, List, [], ◌∷◌, replicate, leb, ltb, eqb}
use Rattle.rules.specs.Site.{within}
use Rattle.rules.specs.Search.{places}

-- ---- The word of a place: 0 is free, a pin is crew · 65,536 + chamber

abbrev pub free : ℕ
free = 0

unfoldable pub pin : (crew chamber : ℕ) → ℕ
pin crew chamber = crew * 65536 + chamber

unfoldable pub crew_of : (word : ℕ) → ℕ
crew_of word = word / 65536

unfoldable pub chamber_of : (word : ℕ) → ℕ
chamber_of word = word % 65536

-- crews are 1 and 2
abbrev pub is_crew : ℕ → Bool
is_crew crew = within 1 2 crew

-- a register has up to 1,000 chambers, 0 to 999
abbrev pub is_chamber : ℕ → Bool
is_chamber chamber = ltb chamber 1000

-- ---- What a table has

-- a word stands in it
unfoldable pub stands : (word : ℕ) (table : List ℕ) → Bool
stands word [] = false
stands word (w ∷ rest) = eqb w word || stands word rest

-- a crew has a pin on a chamber
unfoldable pub pinned : (table : List ℕ) (crew chamber : ℕ) → Bool
pinned table crew chamber = stands (pin crew chamber) table

-- how many pins a crew has
unfoldable pub held : (crew : ℕ) (table : List ℕ) → ℕ
held crew [] = 0
held crew (w ∷ rest) = cond (eqb (crew_of w) crew) 1 0 + held crew rest

-- a crew's pins in register order: the chambers that it has pinned, rising (`places`, rules, Search.antt: the numbers below 1,000 that pass a test)
unfoldable pub pins_of : (table : List ℕ) (crew : ℕ) → List ℕ
pins_of table crew = places 1000 (pinned table crew)

-- all places free
unfoldable pub empty : List ℕ
empty = replicate 64 free

-- ---- Refusal 3: an unknown crew, a bad chamber, a pin twice, or over 32 of a crew's

-- free, or a known crew's pin on a chamber
unfoldable pub word_fits : (word : ℕ) → Bool
word_fits w = eqb w free || (is_crew (crew_of w) && is_chamber (chamber_of w))

unfoldable pub words_fit : (table : List ℕ) → Bool
words_fit [] = true
words_fit (w ∷ rest) = word_fits w && words_fit rest

-- no pin stands there twice
unfoldable pub each_once : (table : List ℕ) → Bool
each_once [] = true
each_once (w ∷ rest) = (eqb w free || not (stands w rest)) && each_once rest

unfoldable pub table_fits : (table : List ℕ) → Bool
table_fits table = words_fit table && each_once table && leb (held 1 table) 32 && leb (held 2 table) 32

-- ---- How a table changes

-- the first place from the front that has one word gets another
unfoldable pub first_changed : (from to : ℕ) (table : List ℕ) → List ℕ
first_changed from to [] = []
first_changed from to (w ∷ rest) = cond (eqb w from) (to ∷ rest) (w ∷ first_changed from to rest)

-- a pin is put into the lowest free place
unfoldable pub with_pin : (crew chamber : ℕ) (table : List ℕ) → List ℕ
with_pin crew chamber table = first_changed free (pin crew chamber) table

-- and its place is free again
unfoldable pub without_pin : (crew chamber : ℕ) (table : List ℕ) → List ℕ
without_pin crew chamber table = first_changed (pin crew chamber) free table
