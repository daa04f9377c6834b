-- `put_word`: the four bytes of the number, the most significant first.
use Rattle.std.proofs.Common.{ap, ap₂, ◌∙◌, arith, List, ◌∷◌, [], ◌++◌, ℕ, ◌+◌, ◌-◌, ◌≡◌, take, drop-drop}
use borrow.Rule.Slice.PartMut.{put_mid}
use Rattle.rules.specs.Sheet.{bytes_of}
use Rattle.laws.specs.Laid.{laid}
use Rattle.words.proofs.put_word.Goals as goal

-- four bytes that are four others
four_are : {a b c d a' b' c' d' : ℕ} → a ≡ a' → b ≡ b' → c ≡ c' → d ≡ d' → a ∷ (b ∷ (c ∷ (d ∷ []))) ≡ a' ∷ (b' ∷ (c' ∷ (d' ∷ [])))
four_are e f g h = ap₂ (λ (x : ℕ) (xs : List ℕ). x ∷ xs) e (ap₂ (λ (x : ℕ) (xs : List ℕ). x ∷ xs) f (ap₂ (λ (x y : ℕ). x ∷ (y ∷ [])) g h))

pub returns : goal.returns
unfolding laid bytes_of
returns c =
    let at = c.args.at in
    let n = c.args.n in
    let old = c.args.out.now in
    let bytes : c.copy_from_slice.new.self ≡ bytes_of 4 n =
    c.copy_from_slice.ensures.after ∙ c.to_be_bytes.ensures ∙ four_are (omega arith) (omega arith) (omega arith) (omega arith) in
    let four : at + 4 - at ≡ 4 = omega arith in
    ap₂ (λ (k : ℕ) (ys : List ℕ). put_mid at k old ys) four bytes ∙ ap (λ (r : List ℕ). take at old ++ (bytes_of 4 n ++ r)) (drop-drop 4 at old)
