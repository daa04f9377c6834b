-- A number of four bytes with its bytes in the other order.
use Rattle.std.specs.Prelude.{ℕ, ◌+◌, ◌*◌, ◌/◌, ◌%◌, ◌<◌, ◌≤◌, ◌≡◌, refl, List, [], ◌∷◌, ◌++◌, length, get_or, set}
use Rattle.std.proofs.Common.{sym, ap, ap₂, ◌∙◌, add-zero, arith}
use Rattle.rules.specs.Sheet.{bytes_of, number_in}
use Rattle.laws.specs.Laid.{laid, laid_none, laid_last, laid_laid, length_laid}

unfoldable pub swapped : ℕ → ℕ
swapped n = n % 256 * 16777216 + n / 256 % 256 * 65536 + n / 65536 % 256 * 256 + n / 16777216

-- ---- the bytes a, b, c and d of a number t, least significant byte first

lowest : (a r : ℕ) → a < 256 → (a + r * 256) % 256 ≡ a
lowest a r h = omega arith

behind_one : (a r : ℕ) → a < 256 → (a + r * 256) / 256 ≡ r
behind_one a r h = omega arith

behind_two : (a r : ℕ) → a < 65536 → (a + r * 65536) / 65536 ≡ r
behind_two a r h = omega arith

behind_three : (a r : ℕ) → a < 16777216 → (a + r * 16777216) / 16777216 ≡ r
behind_three a r h = omega arith

record Four (t a b c d : ℕ) : Type 0 where
  one : t % 256 ≡ a
  two : t / 256 % 256 ≡ b
  three : t / 65536 % 256 ≡ c
  four : t / 16777216 ≡ d

four_of : (t a b c d : ℕ) → a < 256 → b < 256 → c < 256 → d < 256 → t ≡ a + b * 256 + c * 65536 + d * 16777216 → Four t a b c d
four_of t a b c d ha hb hc hd e =
    let e₁ : t ≡ a + (b + (c + d * 256) * 256) * 256 = omega (arith, e) in
    let e₂ : t ≡ (a + b * 256) + (c + d * 256) * 65536 = omega (arith, e) in
    let e₃ : t ≡ (a + b * 256 + c * 65536) + d * 16777216 = omega (arith, e) in
    let h₂ : a + b * 256 < 65536 = omega arith in
    let h₃ : a + b * 256 + c * 65536 < 16777216 = omega arith in
    record {
      one = ap (λ (x : ℕ). x % 256) e₁ ∙ lowest a _ ha;
      two = ap (λ (x : ℕ). x / 256 % 256) e₁ ∙ ap (λ (x : ℕ). x % 256) (behind_one a _ ha) ∙ lowest b _ hb;
      three = ap (λ (x : ℕ). x / 65536 % 256) e₂ ∙ ap (λ (x : ℕ). x % 256) (behind_two _ _ h₂) ∙ lowest c d hc;
      four = ap (λ (x : ℕ). x / 16777216) e₃ ∙ behind_three _ d h₃;
    }

-- ---- reading: the number of four bytes, least significant byte first, swapped

pub number_swapped : (l : List ℕ) (a b c d : ℕ) → a < 256 → b < 256 → c < 256 → d < 256
    → a ≡ get_or l 0 0 → b ≡ get_or l 1 0 → c ≡ get_or l 2 0 → d ≡ get_or l 3 0
    → swapped (a + b * 256 + c * 65536 + d * 16777216) ≡ number_in 4 l
unfolding swapped number_in
number_swapped l a b c d ha hb hc hd pa pb pc pd =
    let t = a + b * 256 + c * 65536 + d * 16777216 in
    let f = four_of t a b c d ha hb hc hd refl in
    ap₂ (λ (x y : ℕ). x * 16777216 + y * 65536 + t / 65536 % 256 * 256 + t / 16777216) f.one f.two
    ∙ ap₂ (λ (x y : ℕ). a * 16777216 + b * 65536 + x * 256 + y) f.three f.four
    ∙ omega (arith, pa, pb, pc, pd)

-- ---- writing: the bytes of a number are those of the swapped one, least significant byte first

high : (n : ℕ) → n < 4294967296 → n / 16777216 < 256
high n h = omega arith

third : (n : ℕ) → n / 256 / 256 % 256 ≡ n / 65536 % 256
third n = omega arith

fourth : (n : ℕ) → n < 4294967296 → n / 256 / 256 / 256 % 256 ≡ n / 16777216
fourth n h = omega arith

pub bytes_swapped : (n m : ℕ) → n < 4294967296 → m ≡ swapped n → bytes_of 4 n ≡ (m % 256) ∷ ((m / 256 % 256) ∷ ((m / 65536 % 256) ∷ ((m / 16777216) ∷ [])))
unfolding swapped bytes_of
bytes_swapped n m h e =
    let f = four_of m (n / 16777216) (n / 65536 % 256) (n / 256 % 256) (n % 256) (high n h) (omega arith) (omega arith) (omega arith) (omega (arith, e)) in
    ap₂ (λ (x y : ℕ). x ∷ (y ∷ ((n / 256 % 256) ∷ ((n % 256) ∷ [])))) (fourth n h ∙ sym f.one) (third n ∙ sym f.two)
    ∙ ap₂ (λ (x y : ℕ). (m % 256) ∷ ((m / 256 % 256) ∷ (x ∷ (y ∷ [])))) (sym f.three) (sym f.four)

-- ---- four elements, each set behind the one before

module _ {A : Type 0} (old : List A) where
  pub one_laid : (m : ℕ) (v : A) → m < length old → set old m v ≡ laid old m (v ∷ [])
  one_laid m v h = sym (laid_none (set old m v) m) ∙ laid_last old m [] v m (sym (add-zero m)) h

module _ {A : Type 0} (old : List A) (at : ℕ) where
  next_laid : (x : List A) (v : A) (m : ℕ) → m ≡ at + length x → m < length old → set (laid old at x) m v ≡ laid old at (x ++ (v ∷ []))
  next_laid x v m e h =
      let r : at + length x ≤ length old = omega arith in
      one_laid (laid old at x) m v (rw (length_laid old at x r) h) ∙ laid_laid old at x (v ∷ []) m e (omega arith)

  pub four_laid : (a b c d : A) → at + 4 ≤ length old → set (set (set (set old at a) (at + 1) b) (at + 2) c) (at + 3) d ≡ laid old at (a ∷ (b ∷ (c ∷ (d ∷ []))))
  four_laid a b c d h =
      ap (λ (l : List A). set (set (set l (at + 1) b) (at + 2) c) (at + 3) d) (one_laid old at a (omega arith))
      ∙ ap (λ (l : List A). set (set l (at + 2) c) (at + 3) d) (next_laid (a ∷ []) b (at + 1) refl (omega arith))
      ∙ ap (λ (l : List A). set l (at + 3) d) (next_laid (a ∷ (b ∷ [])) c (at + 2) refl (omega arith))
      ∙ next_laid (a ∷ (b ∷ (c ∷ []))) d (at + 3) refl (omega arith)
