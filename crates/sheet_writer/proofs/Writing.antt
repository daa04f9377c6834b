-- The writer's numbers and outcomes, as its functions come to them, and the fields of a sheet laid one behind the other.
use Prim.Native.Nat.{ℕ, ◌+◌, ◌*◌, ◌<◌, ◌≤◌}
use mathlib.Core.Path.{◌≡◌, refl, sym, ap, ◌∙◌}
use mathlib.Core.Bool.{Bool, true, false, cond}
use mathlib.Core.List.{List, ◌++◌, append_assoc}
use native.Mathlib.Nat.{zero-add, suc-ne-zero}
use native.Mathlib.Omega.{arith}
use lib.IntN.{ℤ}
use lib.ListN.{length, drop, length-append}
use lib.Dec.{leb}
use borrow.Author.Tests.{le-leb, lt-leb, leb-true}
use Rattle.std.specs.Prelude.{Ok, Err}
use Rattle.rules.specs.declared.Card.{Card}
use Rattle.rules.specs.declared.Wrote.{Wrote}
use Rattle.rules.specs.declared.refusals.Refusal.{Refusal}
use Rattle.rules.specs.Refusals.{refusal_number}
use Rattle.rules.specs.Answers.{wrote_of}
use Rattle.rules.specs.Site.{card_fits, check}
use Rattle.rules.specs.Sheet.{bytes_of, words_bytes, sheet_size, header, sheet_of}
use Rattle.rules.specs.Calls.{write_number, write_answer, write_bytes}
use Rattle.rules.specs.PublicContracts.{WriteContract}
use Rattle.laws.specs.Outcomes.{first_refused, first_passed, both_passed, if_done_lem, if_refused}
use Rattle.laws.specs.Refusing.{number-ne0}
use Rattle.laws.specs.Facts.{length_facts, check_sound}
use Rattle.laws.specs.Laid.{laid, laid_laid, laid_front}
use Rattle.laws.specs.Words.{length_words}
use Rattle.laws.specs.Sheets.{size_words, length-header, length_sheet}

-- ---- the numbers

module _ (c : Card) (g s : List ℤ) (room : ℕ) where
  pub write_checked : (r : Refusal) → refusal_number r ≡ check c g s → refusal_number r ≡ write_number c g s room
  unfolding write_number
  write_checked r e = e ∙ sym (first_refused (check c g s) _ (λ z. number-ne0 r (e ∙ z)))

  module _ (z : 0 ≡ check c g s) where
    pub write_8 : room < sheet_size c → 8 ≡ write_number c g s room
    unfolding write_number
    write_8 h = sym (first_passed (check c g s) _ (sym z) ∙ ap (λ (b : Bool). cond b 0 8) (lt-leb (sheet_size c) room h))

    pub write_0 : sheet_size c ≤ room → 0 ≡ write_number c g s room
    unfolding write_number
    write_0 h = sym (first_passed (check c g s) _ (sym z) ∙ ap (λ (b : Bool). cond b 0 8) (le-leb (sheet_size c) room h))

-- a site that is written, and has room
pub record Clean (c : Card) (g s : List ℤ) (room : ℕ) : Type 0 where
  pub card : card_fits c ≡ true
  pub size : sheet_size c ≡ 19 + (4 * length g + 4 * length s)
  pub longer : length g ≤ length s
  pub room_for : sheet_size c ≤ room

pub clean : (c : Card) (g s : List ℤ) (room : ℕ) → write_number c g s room ≡ 0 → Clean c g s room
unfolding write_number
clean c g s room e =
    let p = both_passed (check c g s) (cond (leb (sheet_size c) room) 0 8) e in
    let q = check_sound c g s p.0 in
    let n = length_facts c g s q.lengths in
    record { card = q.card; size = size_words c ∙ omega (arith, n.land, n.state); longer = omega (arith, n.land, n.heights); room_for = fitting (leb (sheet_size c) room) refl p.1 }
  where
    fitting : (b : Bool) → leb (sheet_size c) room ≡ b → ◌≡◌ {A = ℕ} (cond b 0 8) 0 → sheet_size c ≤ room
    fitting true q z = leb-true (sheet_size c) room q
    fitting false q z = absurd (suc-ne-zero 7 z)

-- ---- the bytes

-- one field more behind those that were laid
behind : (old before after x y : List ℕ) (m : ℕ) → m ≡ length x → m ≤ length old → before ≡ laid old 0 x → after ≡ laid before m y → after ≡ laid old 0 (x ++ y)
behind old before after x y m e h p q = q ∙ ap (λ (l : List ℕ). laid l m y) p ∙ laid_laid old 0 x y m (e ∙ sym (zero-add (length x))) h

pub header_laid : (c : Card) (n : ℕ) (o₀ o₁ o₂ o₃ o₄ o₅ o₆ o₇ o₈ : List ℕ) → 19 ≤ length o₀ → n ≡ sheet_size c
    → o₁ ≡ laid o₀ 0 (bytes_of 4 n) → o₂ ≡ laid o₁ 4 (bytes_of 1 1) → o₃ ≡ laid o₂ 5 (bytes_of 1 c.columns) → o₄ ≡ laid o₃ 6 (bytes_of 1 c.rows)
    → o₅ ≡ laid o₄ 7 (bytes_of 4 c.dx) → o₆ ≡ laid o₅ 11 (bytes_of 4 c.dy) → o₇ ≡ laid o₆ 15 (bytes_of 2 c.dt) → o₈ ≡ laid o₇ 17 (bytes_of 2 c.steps)
    → o₈ ≡ laid o₀ 0 (header c)
unfolding header bytes_of
header_laid c n o₀ o₁ o₂ o₃ o₄ o₅ o₆ o₇ o₈ h e p₁ p₂ p₃ p₄ p₅ p₆ p₇ p₈ =
    let x₁ = bytes_of 4 (sheet_size c) in
    let x₂ = x₁ ++ bytes_of 1 1 in
    let x₃ = x₂ ++ bytes_of 1 c.columns in
    let x₄ = x₃ ++ bytes_of 1 c.rows in
    let x₅ = x₄ ++ bytes_of 4 c.dx in
    let x₆ = x₅ ++ bytes_of 4 c.dy in
    let x₇ = x₆ ++ bytes_of 2 c.dt in
    let q₁ : o₁ ≡ laid o₀ 0 x₁ = p₁ ∙ ap (λ (m : ℕ). laid o₀ 0 (bytes_of 4 m)) e in
    let q₂ : o₂ ≡ laid o₀ 0 x₂ = behind o₀ o₁ o₂ x₁ (bytes_of 1 1) 4 refl (omega arith) q₁ p₂ in
    let q₃ : o₃ ≡ laid o₀ 0 x₃ = behind o₀ o₂ o₃ x₂ (bytes_of 1 c.columns) 5 refl (omega arith) q₂ p₃ in
    let q₄ : o₄ ≡ laid o₀ 0 x₄ = behind o₀ o₃ o₄ x₃ (bytes_of 1 c.rows) 6 refl (omega arith) q₃ p₄ in
    let q₅ : o₅ ≡ laid o₀ 0 x₅ = behind o₀ o₄ o₅ x₄ (bytes_of 4 c.dx) 7 refl (omega arith) q₄ p₅ in
    let q₆ : o₆ ≡ laid o₀ 0 x₆ = behind o₀ o₅ o₆ x₅ (bytes_of 4 c.dy) 11 refl (omega arith) q₅ p₆ in
    let q₇ : o₇ ≡ laid o₀ 0 x₇ = behind o₀ o₆ o₇ x₆ (bytes_of 2 c.dt) 15 refl (omega arith) q₆ p₇ in
    behind o₀ o₇ o₈ x₇ (bytes_of 2 c.steps) 17 refl (omega arith) q₇ p₈

pub sheet_laid : (c : Card) (g s : List ℤ) (o₀ o₁ o₂ o₃ : List ℕ) → Clean c g s (length o₀)
    → o₁ ≡ laid o₀ 0 (header c) → o₂ ≡ laid o₁ 19 (words_bytes g) → o₃ ≡ laid o₂ (19 + 4 * length g) (words_bytes s)
    → o₃ ≡ sheet_of c g s ++ drop (sheet_size c) o₀
unfolding sheet_of
sheet_laid c g s o₀ o₁ o₂ o₃ k p₁ p₂ p₃ =
    let x = header c ++ words_bytes g in
    let m : 19 + 4 * length g ≡ length x = sym (length-append (header c) (words_bytes g) ∙ omega (arith, length-header c, length_words g)) in
    let t = k.size in
    let r = k.room_for in
    let q₂ : o₂ ≡ laid o₀ 0 x = behind o₀ o₁ o₂ (header c) (words_bytes g) 19 (sym (length-header c)) (omega arith) p₁ p₂ in
    behind o₀ o₂ o₃ x (words_bytes s) (19 + 4 * length g) m (omega arith) q₂ p₃
    ∙ ap (laid o₀ 0) (append_assoc (header c) (words_bytes g) (words_bytes s))
    ∙ laid_front o₀ (sheet_of c g s)
    ∙ ap (λ (n : ℕ). sheet_of c g s ++ drop n o₀) (length_sheet c g s ∙ sym t)

-- ---- the outcomes

module _ (c : Card) (g s : List ℤ) (bytes : List ℕ) where
  abbrev told : ℕ
  told = write_number c g s (length bytes)

  pub write_refused : (r : Refusal) {wrote : Wrote} → wrote ≡ wrote_of (Err r) → refusal_number r ≡ told → WriteContract c g s bytes wrote bytes
  unfolding write_answer write_bytes
  write_refused r same e =
      let k : told ≡ 0 → ⊥ = λ z. number-ne0 r (e ∙ z) in
      record {
        answer = same ∙ (λ i. record { number = e i; size = sym (if_refused told (sheet_size c) 0 k) i });
        bytes_exit = sym (if_refused told (sheet_of c g s ++ drop (sheet_size c) bytes) bytes k);
      }

  pub write_done : (n : ℕ) (o : List ℕ) → n ≡ sheet_size c → o ≡ sheet_of c g s ++ drop (sheet_size c) bytes → 0 ≡ told → WriteContract c g s bytes (wrote_of (Ok n)) o
  unfolding write_answer write_bytes
  write_done n o p q e = record {
    answer = λ i. record { number = e i; size = (p ∙ sym (if_done_lem told (sheet_size c) 0 (sym e))) i };
    bytes_exit = q ∙ sym (if_done_lem told (sheet_of c g s ++ drop (sheet_size c) bytes) bytes (sym e));
  }
