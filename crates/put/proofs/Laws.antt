-- Laws of a text that was put.
use mathlib.Core.Path.{◌≡◌, sym, ap, ap₂, ◌∙◌, subst}
use Prim.Native.Nat.{ℕ, suc, ◌+◌, ◌-◌, ◌^◌, ◌<◌, ◌≤◌, zero-le}
use native.Mathlib.Omega.{arith}
use mathlib.Core.List.{List, [], ◌++◌, append_assoc}
use lib.ListN.{length, take, drop, length-append}
use lib.Seq.{take-length, take_at, drop_at, drop-drop}
use borrow.Rule.Slice.PartMut.{put_mid}
use borrow.Author.Rules.{rules}
use borrow.Author.Tests.{le-leb, lt-leb}
use Rattle.std.proofs.Common.{length-drop}
use Rattle.std.specs.Fmt.{decimal as std_decimal}
use Rattle.std.proofs.lemmas.Fmt.{AppendsLastDigit, decimal_from_appends, length-decimal-le}
use Rattle.rules.specs.Text.{digits_of, decimal, fitted}
use Rattle.laws.specs.Decimals.{length-decimal}
use Rattle.put.specs.Put.{Put}

-- a text that fits, and one that does not
pub fits_in : (t : List ℕ) (k : ℕ) → length t ≤ k → fitted t k ≡ t
unfolding fitted
fits_in t k h = rw (le-leb _ _ h)

fits_not : (t : List ℕ) (k : ℕ) → k < length t → fitted t k ≡ []
unfolding fitted
fits_not t k h = rw (lt-leb _ _ h)

-- nothing was put
pub put_nil : (old : List ℕ) → Put [] 0 old old
put_nil old = record { long = rw (fits_in [] (length old) zero-le); bytes = rw (fits_in [] (length old) zero-le) }

-- how much of a text is handed over to a room of k: nothing, or all of it
pub handed_none : (t : List ℕ) (k n : ℕ) → k < length t → n ≡ 0 → take n t ≡ fitted t k
handed_none t k n h e = rw (e, fits_not t k h)

pub handed_all : (t : List ℕ) (k n : ℕ) → length t ≤ k → n ≡ length t → take n t ≡ fitted t k
handed_all t k n h e = rw (e, fits_in t k h) (take-length t)

-- and what the copy of that part then leaves
pub put_handed : (t old part : List ℕ) (r : ℕ) → part ≡ fitted t (length old) → r ≡ length part → Put t r old (part ++ drop r old)
put_handed t old part r h e = record { long = e ∙ ap length h; bytes = ap (λ (l : List ℕ). l ++ drop r old) h }

-- how far a decimal number reaches that was put with room to spare
pub put_reach : (k m n : ℕ) {r : ℕ} {old new : List ℕ} → k + m ≡ 19 → n < 10 ^ suc k → Put (decimal n) r old new → suc k ≤ length old → r ≤ suc k
put_reach k m n {r} {old} e h p l =
    let short = length-decimal k m n e h in
    omega (arith, p.long, ap length (fits_in (decimal n) (length old) (omega arith)))

-- what was put, at an equal text
pub put_same : {s t : List ℕ} {r : ℕ} {old new : List ℕ} → s ≡ t → Put s r old new → Put t r old new
put_same {r = r} {old = old} {new = new} e p = subst (λ (l : List ℕ). Put l r old new) e p

-- the part that is handed back
pub put_part : {t : List ℕ} {r : ℕ} {old new : List ℕ} → Put t r old new → take r new ≡ fitted t (length old)
put_part {t} {r} {old} {new} p = rw p.bytes (take_at (fitted t (length old)) (drop r old) r (sym p.long))

pub put_fits : {t : List ℕ} {r : ℕ} {old new : List ℕ} → Put t r old new → r ≤ length new
put_fits {t} {r} {old} {new} p = omega (arith, p.long, ap length p.bytes, length-append (fitted t (length old)) (drop r old))

-- where the text takes all of it
pub put_whole : {t : List ℕ} {r : ℕ} {old new : List ℕ} → Put t r old new → r ≡ length new → new ≡ fitted t (length old)
put_whole {t} {r} {old} {new} p e = sym (take-length new) ∙ ap (λ (n : ℕ). take n new) (sym e) ∙ put_part p

pub put_within : {t : List ℕ} {r : ℕ} {old new : List ℕ} → Put t r old new → r ≡ length (take r new)
put_within {t} {r} {old} {new} p = p.long ∙ ap length (sym (put_part p))

-- a text behind one that was put with room for both, where `room[r..r + k]` is filled with it
pub put_behind : (t s : List ℕ) (k : ℕ) {r : ℕ} {old new part : List ℕ} → Put t r old new → part ≡ s → k ≡ length s → length t + length s ≤ length old
    → Put (t ++ s) (r + k) old (put_mid r k new part)
put_behind t s k {r} {old} {new} {part} p e n h =
    let whole = fits_in t (length old) (omega arith) in
    let long : r ≡ length t = p.long ∙ ap length whole in
    let both : fitted (t ++ s) (length old) ≡ t ++ s = fits_in (t ++ s) (length old) (omega (arith, length-append t s)) in
    let is : new ≡ t ++ drop r old = p.bytes ∙ ap (λ (l : List ℕ). l ++ drop r old) whole in
    let rest : drop r new ≡ drop r old = ap (drop r) is ∙ drop_at t (drop r old) r (sym long) in
    record {
      long = omega (arith, long, n, length-append t s, ap length both);
      bytes =
          ap (λ (l : List ℕ). l ++ (part ++ drop k (drop r new))) (put_part p ∙ whole)
          ∙ ap₂ (λ (a b : List ℕ). t ++ (a ++ drop k b)) e rest
          ∙ ap (λ (l : List ℕ). t ++ (s ++ l)) (drop-drop k r old)
          ∙ sym (append_assoc t s (drop (r + k) old))
          ∙ ap (λ (l : List ℕ). l ++ drop (r + k) old) (sym both);
    }

-- ---- The library's digits

-- are the definition's
own : AppendsLastDigit digits_of
unfolding digits_of
own = search rules

-- of a number below 10 ^ 10 there are at most ten
pub ten_digits : (n : ℕ) → n < 10 ^ 10 → length (std_decimal n) ≤ 10
ten_digits n small = length-decimal-le 10 n (omega arith) (omega arith) (omega arith)

same_digits : (n : ℕ) → n < 2 ^ 32 → std_decimal n ≡ decimal n
unfolding decimal
same_digits n small = let short = ten_digits n (omega arith) in sym (decimal_from_appends digits_of own 20 n (omega arith) (omega arith))

-- a list of k from r on, where the digits of m were written in front of `behind`, and m is n
pub written : (m n : ℕ) (behind : List ℕ) (r k : ℕ) (l : List ℕ) → drop r l ≡ std_decimal m ++ behind → length l ≡ k → m ≡ n → n < 2 ^ 32
    → take (k - r) (drop r l) ≡ decimal n ++ behind
written m n behind r k l e long same small =
    ap (λ (j : ℕ). take j (drop r l)) (omega (arith, length-drop r l))
    ∙ take-length (drop r l)
    ∙ e
    ∙ ap (λ (digits : List ℕ). digits ++ behind) (ap std_decimal same ∙ same_digits n small)
