-- Bytes laid one behind the other, and the texts of sizes and values taken apart as they are laid.
use Prim.Native.Nat.{ℕ, suc, ◌+◌, ◌/◌, ◌%◌, ◌≤◌, ◌<◌}
use mathlib.Core.Path.{◌≡◌, refl, sym, ap, ◌∙◌, subst}
use mathlib.Core.Bool.{Bool, true, false, cond}
use mathlib.Core.List.{List, [], ◌∷◌, ◌++◌}
use native.Mathlib.Omega.{arith}
use lib.IntN.{ℤ, pos, negsuc, nat_abs}
use lib.Signed.{lt_z}
use lib.ListN.{length, set, length-append}
use borrow.Author.Tests.{ltb-true, eq-eqb, ne_eqb}
use Rattle.rules.specs.Text.{decimal}
use Rattle.rules.specs.Raster.{six_places, metres, signed_metres}
use Rattle.laws.specs.Tests.{to_T}
use Rattle.laws.specs.Laid.{laid}
use Rattle.laws.specs.Swapped.{one_laid}
use Rattle.laws.specs.Decimals.{decimal_one, decimal_more}
use Rattle.print.specs.Appended.{Appended}
use Rattle.print.proofs.Laws.{appended_more, appended_length}
use Rattle.raster_writer.specs.Lines.{minus_text, behind_cell}

-- ---- Bytes

pub one_byte : (old : List ℕ) (at v : ℕ) → at < length old → Appended (v ∷ []) at (at + 1) old (set old at v)
one_byte old at v h = record { stop = refl; bytes = one_laid old at v h }

-- one byte more, where the text before it ends
pub next_byte : {t : List ℕ} {at m : ℕ} {old new : List ℕ} (k v : ℕ) → Appended t at m old new → k ≡ m → k < length old → Appended (t ++ (v ∷ [])) at (k + 1) old (set new k v)
next_byte {t} {at} {m} {old} {new} k v p e h =
    let q = subst (λ (j : ℕ). Appended t at j old new) (sym e) p in
    appended_more q (one_byte new k v (rw (appended_length q (omega arith)) h)) (omega arith)

-- where it ends, said in another way
pub ends_at : {t : List ℕ} {at m : ℕ} {old new : List ℕ} (k : ℕ) → m ≡ k → Appended t at m old new → Appended t at k old new
ends_at {t} {at} {m} {old} {new} k e p = subst (λ (j : ℕ). Appended t at j old new) e p

-- ---- The whole metres

pub two_digits : (n : ℕ) → 10 ≤ n → n < 100 → decimal n ≡ (48 + n / 10) ∷ (48 + n % 10) ∷ []
two_digits n l h = decimal_more n l (omega arith) ∙ ap (λ (d : List ℕ). d ++ ((48 + n % 10) ∷ [])) (decimal_one (n / 10) (omega arith))

-- ---- A point and six digits: seven bytes, each behind the one before

pub seven : (old : List ℕ) (at a b c d e f g : ℕ) → at + 7 ≤ length old
    → set (set (set (set (set (set (set old at a) (at + 1) b) (at + 2) c) (at + 3) d) (at + 4) e) (at + 5) f) (at + 6) g ≡ laid old at (a ∷ b ∷ c ∷ d ∷ e ∷ f ∷ g ∷ [])
seven old at a b c d e f g h =
    (next_byte (at + 6) g
    (next_byte (at + 5) f
    (next_byte (at + 4) e
    (next_byte (at + 3) d
    (next_byte (at + 2) c
    (next_byte (at + 1) b (one_byte old at a (omega arith)) refl (omega arith))
    (omega arith) (omega arith))
    (omega arith) (omega arith))
    (omega arith) (omega arith))
    (omega arith) (omega arith))
    (omega arith) (omega arith)
    ).bytes

-- ---- A size, and a value: its sign in front

pub metres_apart : (n : ℕ) → metres n ≡ decimal (n / 1000000) ++ (46 ∷ six_places n)
unfolding metres
metres_apart n = refl

pub length-metres : (n : ℕ) → length (metres n) ≡ length (decimal (n / 1000000)) + 7
length-metres n = ap length (metres_apart n) ∙ length-append (decimal (n / 1000000)) (46 ∷ six_places n)

-- as the code tests the sign
pub minus_below : (z : ℤ) → lt_z z (pos 0) ≡ true → minus_text z ≡ 45 ∷ []
minus_below (pos n) e = absurd (let h = ltb-true n 0 e in omega arith)
minus_below (negsuc n) e = refl

pub minus_not : (z : ℤ) → lt_z z (pos 0) ≡ false → minus_text z ≡ []
minus_not (pos n) e = refl
minus_not (negsuc n) e = absurd (to_T (sym e))

pub signed_apart : (z : ℤ) → minus_text z ++ metres (nat_abs z) ≡ signed_metres z
unfolding signed_metres
signed_apart (pos n) = refl
signed_apart (negsuc n) = refl

-- ---- What stands behind a value

pub last_in_row : (columns i : ℕ) → i + 1 ≡ columns → 10 ≡ behind_cell columns i
last_in_row columns i e = sym (ap (λ (t : Bool). cond t 10 32) (eq-eqb (suc i) columns (omega arith)))

pub inside_row : (columns i : ℕ) → (i + 1 ≡ columns → ⊥) → 32 ≡ behind_cell columns i
inside_row columns i n = sym (ap (λ (t : Bool). cond t 10 32) (ne_eqb (suc i) columns (λ e. n (omega (arith, e)))))
