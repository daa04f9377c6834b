-- What a page shows once a text was put behind what it shows.
use Rattle.std.proofs.Common.{◌≡◌, ℕ, ℤ, ◌+◌, ◌-◌, ◌≤◌, List, ◌++◌, length, take, drop, sym, ap, ◌∙◌, arith, append_assoc, length-append, length-take-le, take_at}
use Rattle.std.proofs.Math.Path.{subst}
use borrow.Rule.Slice.PartMut.{put_mid}
use Rattle.laws.specs.Laid.{laid}
use mir.Val.{SFits, to_z, of_z}
use mir.Syntax.{w32}
use Rattle.rules.specs.Text.{depth_text}
use Rattle.rules.specs.Calls.{text_part, text_scratch}
use Rattle.put.specs.Put.{Put}
use Rattle.put.proofs.Laws.{put_same}
use Rattle.text.proofs.Laws.{told_put, signed_same}
use Rattle.print.specs.Appended.{Appended}
use Rattle.print.proofs.Laws.{put_appended}

-- the front of a list up to the end of a text that was laid into it
appended_front : {t : List ℕ} {at end : ℕ} {old new : List ℕ} → Appended t at end old new → at ≤ length old → take end new ≡ take at old ++ t
unfolding laid
appended_front {t} {at} {end} {old} {new} p h =
    let rest = drop (at + length t) old in
    let long : length (take at old ++ t) ≡ end = length-append (take at old) t ∙ ap (λ (n : ℕ). n + length t) (length-take-le at old h) ∙ sym p.stop in
    ap (take end) (p.bytes ∙ sym (append_assoc (take at old) t rest)) ∙ take_at (take at old ++ t) rest end long

module _ (room : List ℕ) {end : ℕ} {shown : List ℕ} (told : length room ≡ 9298) (low : end ≤ 9298) (is : take end room ≡ shown) where
  long : length shown ≡ end
  long = ap length (sym is) ∙ length-take-le end room (omega (arith, told))

  module _ {text part : List ℕ} {k : ℕ} (p : Put text k (take (9298 - end) (drop end room)) part) (h : length shown + length text ≤ 9298) where
    there : Appended text end (end + k) room (put_mid end (9298 - end) room part)
    there =
        subst (λ (n : ℕ). Appended text end (end + k) room (put_mid end (n - end) room part)) told
        (put_appended (subst (λ (n : ℕ). Put text k (take (n - end) (drop end room)) part) (sym told) p) (omega (arith, long, told)))

    pub page_shows : take (end + k) (put_mid end (9298 - end) room part) ≡ shown ++ text
    page_shows = appended_front there (omega (arith, told)) ∙ ap (λ (l : List ℕ). l ++ text) is

    pub page_ends : end + k ≤ 9298
    page_ends = omega (arith, there.stop, long)

    -- and how much longer that is, where the text has at most n bytes
    pub page_long : {n : ℕ} → length text ≤ n → length (take (end + k) (put_mid end (9298 - end) room part)) ≤ length shown + n
    page_long {n} few = omega (arith, ap length page_shows, length-append shown text)

-- the text of a depth, as the function that writes it tells it
pub depth_put : (z : ℤ) {r : ℕ} {old new : List ℕ} → SFits w32 z → r ≡ length (text_part (to_z w32 (of_z w32 z)) old) → new ≡ text_scratch (to_z w32 (of_z w32 z)) old
    → Put (depth_text z) r old new
depth_put z f long scratch = put_same (signed_same z f) (told_put _ long scratch)

-- one text behind another
pub put_more : (shown a b : List ℕ) {mid new : List ℕ} → mid ≡ shown ++ a → new ≡ mid ++ b → new ≡ shown ++ (a ++ b)
put_more shown a b {mid} {new} p q = q ∙ ap (λ (l : List ℕ). l ++ b) p ∙ append_assoc shown a b
