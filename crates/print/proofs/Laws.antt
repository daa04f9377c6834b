-- Laws of a text that was appended: put into the part behind a place, one text behind another, and a text at the front.
use mathlib.Core.Path.{◌≡◌, sym, ap, ◌∙◌, subst}
use mathlib.Core.List.{List, [], ◌++◌, append-nil}
use Prim.Native.Nat.{ℕ, ◌+◌, ◌-◌, ◌≤◌}
use native.Mathlib.Omega.{arith}
use lib.ListN.{length, take, drop, length-append, length-drop, drop_of_length-le}
use lib.Seq.{take_at, drop-drop}
use borrow.Rule.Slice.PartMut.{put_mid}
use Rattle.laws.specs.Laid.{laid, laid_laid, length_laid, laid_none, laid_front}
use Rattle.laws.specs.Parts.{back_is, back_length}
use Rattle.put.specs.Put.{Put}
use Rattle.put.proofs.Laws.{fits_in}
use Rattle.rules.specs.Text.{fitted}
use Rattle.print.specs.Appended.{Appended}

-- ---- put into the part behind a place

abbrev behind : (at : ℕ) → List ℕ → List ℕ
behind at old = take (length old - at) (drop at old)

pub put_appended : {text : List ℕ} {k at : ℕ} {old part : List ℕ} → Put text k (behind at old) part → at + length text ≤ length old
    → Appended text at (at + k) old (put_mid at (length old - at) old part)
unfolding laid
put_appended {text} {k} {at} {old} {part} p h =
    let room = back_length at old in
    let fits : fitted text (length (behind at old)) ≡ text = fits_in text (length (behind at old)) (omega arith) in
    let count : k ≡ length text = p.long ∙ ap length fits in
    let front : part ≡ text ++ drop (at + length text) old =
    p.bytes ∙ ap (λ (t : List ℕ). t ++ drop k (behind at old)) fits
    ∙ ap (λ (l : List ℕ). text ++ drop k l) (back_is at old)
    ∙ ap (λ (l : List ℕ). text ++ l) (drop-drop k at old)
    ∙ ap (λ (n : ℕ). text ++ drop (at + n) old) count in
    let all : length (drop at old) ≤ length old - at = omega (arith, length-drop at old) in
    let none : drop (length old - at) (drop at old) ≡ [] = drop_of_length-le (drop at old) all in
    record {
      stop = ap (λ (n : ℕ). at + n) count;
      bytes =
          ap (λ (l : List ℕ). take at old ++ (part ++ l)) none
          ∙ ap (λ (l : List ℕ). take at old ++ l) (append-nil part)
          ∙ ap (λ (l : List ℕ). take at old ++ l) front;
    }

-- and it ends within the list
pub put_ends : {text : List ℕ} {k : ℕ} {part : List ℕ} (at : ℕ) (old : List ℕ) → Put text k (behind at old) part → at + length text ≤ length old → at + k ≤ length old
put_ends {text} {k} at old p h =
    omega (arith, p.long, ap length (fits_in text (length (behind at old)) (let room = back_length at old in omega arith)))

-- ---- one text behind another

pub appended_more : {a b : List ℕ} {at m end : ℕ} {old mid new : List ℕ} → Appended a at m old mid → Appended b m end mid new → m ≤ length old
    → Appended (a ++ b) at end old new
appended_more {a} {b} {at} {m} {end} {old} {mid} p q h = record {
  stop = q.stop ∙ ap (λ (n : ℕ). n + length b) p.stop ∙ (let e = length-append a b in omega arith);
  bytes = q.bytes ∙ ap (λ (l : List ℕ). laid l m b) p.bytes ∙ laid_laid old at a b m p.stop h;
}

pub appended_same : {a b : List ℕ} {at end : ℕ} {old new : List ℕ} → a ≡ b → Appended a at end old new → Appended b at end old new
appended_same {at = at} {end = end} {old = old} {new = new} e p = subst (λ (l : List ℕ). Appended l at end old new) e p

pub appended_none : {at : ℕ} {old : List ℕ} → Appended [] at at old old
appended_none {at} {old} = record { stop = omega arith; bytes = sym (laid_none old at) }

-- the list stays as long as it was
pub appended_length : {a : List ℕ} {at end : ℕ} {old new : List ℕ} → Appended a at end old new → end ≤ length old → length new ≡ length old
appended_length {a} {at} {end} {old} p h = ap length p.bytes ∙ length_laid old at a (let e = p.stop in omega arith)

-- ---- a text at the front: its part, and how long that is

pub front_part : {t : List ℕ} {end : ℕ} {old new : List ℕ} → Appended t 0 end old new → take end new ≡ t
front_part {t} {end} {old} {new} p =
    ap (take end) (p.bytes ∙ laid_front old t) ∙ take_at t (drop (length t) old) end (let e = p.stop in omega arith)

pub front_length : {t : List ℕ} {end : ℕ} {old new : List ℕ} → Appended t 0 end old new → end ≡ length (take end new)
front_length {t} {end} {old} {new} p = let e = p.stop in omega (arith, ap length (front_part p))
