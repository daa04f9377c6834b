-- A row of chamber records laid into one array of numbers: the x of chamber i at place i, its y at place 1,000 + i.
use Rattle.std.specs.Prelude.{◌≡◌, refl, true, ℕ, zero, suc, ◌+◌, ◌≤◌, List, leb, ℤ, pos, length, get_or, set, replicate}
use Rattle.std.proofs.Common.{add-one}
use Rattle.rules.specs.declared.Card.{Card}
use Rattle.rules.specs.declared.Chamber.{Chamber}
use Rattle.rules.specs.Site.{if_done}
use Rattle.site.specs.Front.{front_also}

-- how many of n chambers are read: none where the card or a length is refused
unfoldable pub to_read : Card → (land state : List ℤ) (n : ℕ) → ℕ
to_read c g s n = if_done (front_also true (leb n 1000) c g s) n 0

-- so many are in the row, and in the array's room
pub record Readable (row : List Chamber) (n : ℕ) : Type 0 where
  pub most : n ≤ length row
  pub few : n ≤ 1000

-- what stands past a row's end
abbrev pub none : Chamber
none = record { x = pos 0; y = pos 0 }

abbrev pub start : List ℤ
start = replicate 2000 (pos 0)

unfoldable pub put_at : List ℤ → ℕ → Chamber → List ℤ
put_at both i c = set (set both i c.x) (1000 + i) c.y

-- the first n chambers of the row
unfoldable pub gathered : List Chamber → ℕ → List ℤ
gathered row zero = start
gathered row (suc n) = put_at (gathered row n) n (get_or row n none)

pub gathered_none : (row : List Chamber) → gathered row 0 ≡ start
unfolding gathered
gathered_none row = refl

pub gathered_more : (row : List Chamber) (n : ℕ) → gathered row (n + 1) ≡ put_at (gathered row n) n (get_or row n none)
unfolding gathered
gathered_more row n = rw add-one refl
