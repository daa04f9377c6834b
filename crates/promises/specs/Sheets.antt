-- Sheets: a written sheet reads back as the same site, a sheet that was read writes back as the same bytes, and each site has one sheet.
-- Of the definitions; RoundTrips.antt says the same of the two calls. ThereAndBack.antt has the work.
use Rattle.std.specs.Prelude.{ℕ, ◌≡◌, refl, cond, ◌&&◌, List, ℤ, length, eqb}
use Rattle.std.proofs.Common.{sym, ap, ◌∙◌, eq-eqb}
use Rattle.rules.specs.declared.Card.{Card}
use Rattle.rules.specs.Site.{check}
use Rattle.rules.specs.Sheet.{Bytes, sheet_of, card_in, ground_in, state_in, read_number}
use Rattle.laws.specs.Facts.{check_facts}
use Rattle.laws.specs.Sheets.{read_facts}
use Rattle.promises.specs.ThereAndBack.{writes_back, read_checks, card_back, ground_back_lem, state_back_lem, number_back}

-- ---- there and back

-- some bytes read as a site, by a reader that is lent lists of the site's lengths
pub record ReadsAs (l : List ℕ) (c : Card) (g s : List ℤ) : Type 0 where
  pub number : read_number l (length g) (length s) ≡ 0
  pub card : card_in l ≡ c
  pub land : ground_in l ≡ g
  pub state : state_in l ≡ s

-- the sheet of a site that passes the first three checks reads as that site
pub written_reads : (c : Card) (g s : List ℤ) → check c g s ≡ 0 → ReadsAs (sheet_of c g s) c g s
written_reads c g s e =
    let f = check_facts c g s e in
    let as_long : ◌≡◌ {A = ℕ} (cond (eqb (length g) (length g) && eqb (length s) (length s)) 0 2) 0 = rw (eq-eqb (length g) (length g) refl, eq-eqb (length s) (length s) refl) in
    record { number = number_back c g s f e (length g) (length s) ∙ as_long; card = card_back c g s f; land = ground_back_lem c g s f; state = state_back_lem c g s f }

-- bytes that are read are the sheet of what was read, which passes the first three checks
pub record IsSheetOf (l : List ℕ) (c : Card) (g s : List ℤ) : Type 0 where
  pub checked : check c g s ≡ 0
  pub bytes : sheet_of c g s ≡ l

pub read_is_sheet : (l : List ℕ) (n m : ℕ) → Bytes l → read_number l n m ≡ 0 → IsSheetOf l (card_in l) (ground_in l) (state_in l)
read_is_sheet l n m b e = let r = read_facts l n m e in record { checked = read_checks l n m r; bytes = writes_back l b n m r }

-- ---- each site has one sheet

-- two sites with the same sheet are the same site
pub record SameSite (c c' : Card) (g g' s s' : List ℤ) : Type 0 where
  pub card : c ≡ c'
  pub land : g ≡ g'
  pub state : s ≡ s'

pub one_site : (c c' : Card) (g g' s s' : List ℤ) → check c g s ≡ 0 → check c' g' s' ≡ 0 → sheet_of c g s ≡ sheet_of c' g' s' → SameSite c c' g g' s s'
one_site c c' g g' s s' e e' q =
    let r = written_reads c g s e in
    let r' = written_reads c' g' s' e' in
    record {
      card = sym r.card ∙ ap card_in q ∙ r'.card;
      land = sym r.land ∙ ap ground_in q ∙ r'.land;
      state = sym r.state ∙ ap state_in q ∙ r'.state;
    }

-- two sheets that read as the same site are the same bytes
pub one_sheet : (l l' : List ℕ) (n m n' m' : ℕ) → Bytes l → Bytes l' → read_number l n m ≡ 0 → read_number l' n' m' ≡ 0
    → SameSite (card_in l) (card_in l') (ground_in l) (ground_in l') (state_in l) (state_in l')
    → l ≡ l'
one_sheet l l' n m n' m' b b' e e' q =
    let p = (read_is_sheet l n m b e).bytes in
    let p' = (read_is_sheet l' n' m' b' e').bytes in
    let s : sheet_of (card_in l) (ground_in l) (state_in l) ≡ sheet_of (card_in l') (ground_in l') (state_in l') = cc (q.card, q.land, q.state) in
    sym p ∙ s ∙ p'
