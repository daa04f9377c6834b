-- A count that is compared with the product of two others by its quotient and rest: the product is not made.
use Rattle.std.specs.Prelude.{ℕ, ◌+◌, ◌*◌, ◌/◌, ◌%◌, ◌<◌, ◌≡◌, refl, Bool, true, false, ◌&&◌, eqb}
use Rattle.std.proofs.Common.{sym, ap, ap₂, ◌∙◌, arith, add-zero, mul-zero, div-add-mod', eqb-true, eq-eqb}
use Rattle.std.proofs.Math.Arith.{digits_div, digits_mod}
use Rattle.std.proofs.lemmas.Bool.{eqb-false}

pub product_none : (n columns rows : ℕ) → columns ≡ 0 → eqb n 0 ≡ eqb n (rows * columns)
product_none n columns rows e = ap (eqb n) (sym (ap (λ (m : ℕ). rows * m) e ∙ mul-zero rows))

pub product_by_quotient : (n columns rows : ℕ) → (columns ≡ 0 → ⊥) → (eqb (n % columns) 0 && eqb (n / columns) rows) ≡ eqb n (rows * columns)
product_by_quotient n columns rows some = go (eqb n (rows * columns)) refl
  where
    low : 0 < columns
    low = omega arith

    go : (t : Bool) → eqb n (rows * columns) ≡ t → (eqb (n % columns) 0 && eqb (n / columns) rows) ≡ t
    go true e =
        let is : n ≡ rows * columns + 0 = eqb-true n (rows * columns) e ∙ sym (add-zero (rows * columns)) in
        ap₂ ◌&&◌
        (eq-eqb (n % columns) 0 (ap (λ (m : ℕ). m % columns) is ∙ digits_mod rows low))
        (eq-eqb (n / columns) rows (ap (λ (m : ℕ). m / columns) is ∙ digits_div rows low))
    go false e = pick (eqb (n % columns) 0) (eqb (n / columns) rows) refl refl
      where
        pick : (s t : Bool) → eqb (n % columns) 0 ≡ s → eqb (n / columns) rows ≡ t → (s && t) ≡ false
        pick false t f g = refl
        pick true false f g = refl
        pick true true f g =
            absurd
            (eqb-false n (rows * columns) e
            (sym (div-add-mod' n columns)
            ∙ ap₂ (λ (q r : ℕ). q * columns + r) (eqb-true (n / columns) rows g) (eqb-true (n % columns) 0 f)
            ∙ add-zero (rows * columns)))
