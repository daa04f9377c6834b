-- A list that is lent in parts, `&mut l[..a]` and then `&mut l[a..]`: how long each part is, and what the whole holds at the end.
use Rattle.std.specs.Prelude.{◌≡◌, List, ◌++◌, ℕ, ◌-◌, ◌≤◌, length, take, drop}
use Rattle.std.proofs.Common.{◌∙◌, ap, append-nil, arith, length-append, length-drop, drop_of_length-le, take_all, take_at, drop_at, length-take-le}
use borrow.Rule.Slice.PartMut.{put_mid}

module _ {A : Type 0} where
  -- each part filled
  pub two_parts : (a : ℕ) (old : List A) {first last g h : List A} → first ≡ g → last ≡ h → length g ≡ a
      → put_mid a (length (first ++ drop a old) - a) (first ++ drop a old) last ≡ g ++ h
  two_parts a old {first} {last} {g} {h} e f l =
      let n : ℕ = length (g ++ drop a old) - a in
      let k : length (drop a old) ≤ n = omega (arith, length-append g (drop a old)) in
      rw (e, f)
      (ap (λ (t : List A). t ++ (h ++ drop n (drop a (g ++ drop a old)))) (take_at g (drop a old) a l)
      ∙ ap (λ (t : List A). g ++ (h ++ drop n t)) (drop_at g (drop a old) a l)
      ∙ ap (λ (t : List A). g ++ (h ++ t)) (drop_of_length-le (drop a old) k)
      ∙ ap (λ (t : List A). g ++ t) (append-nil h))

  -- a part is as long as it should be
  pub length_part : (k : ℕ) (l : List A) {m : ℕ} → k ≤ length l → k ≡ m → length (take k l) ≡ m
  length_part k l h e = length-take-le k l h ∙ e

  -- what `&l[a..]` holds, and how long it is
  pub back_is : (a : ℕ) (l : List A) → take (length l - a) (drop a l) ≡ drop a l
  back_is a l = take_all (length l - a) (drop a l) (omega (arith, length-drop a l))

  pub back_length : (a : ℕ) (l : List A) → length (take (length l - a) (drop a l)) ≡ length l - a
  back_length a l = ap length (back_is a l) ∙ length-drop a l

  -- what lies behind a, once `&mut l[a..]` is filled and has come back
  pub back_drop : (a : ℕ) (l : List A) {new : List A} → a ≤ length l → drop a (put_mid a (length l - a) l new) ≡ new
  back_drop a l {new} h =
      let k : length (drop a l) ≤ length l - a = omega (arith, length-drop a l) in
      drop_at (take a l) (new ++ drop (length l - a) (drop a l)) a (length-take-le a l h)
      ∙ ap (λ (t : List A). new ++ t) (drop_of_length-le (drop a l) k)
      ∙ append-nil new
