-- What `nearest` answers for a product p, by the bits of a float x that stands for it: p itself, or p with 0.0 added, which is no reason to refuse.
use Prim.Native.Nat.{ℕ, zero, suc, ◌+◌, ◌*◌, ◌/◌, ◌%◌, ◌^◌, ◌≤◌, ◌<◌}
use mathlib.Core.Path.{◌≡◌, refl, sym, ap, ◌∙◌, subst}
use mathlib.Core.Bool.{true, false, cond}
use native.Mathlib.Nat.{mod-eq_of_lt}
use native.Mathlib.Omega.{arith}
use lib.Dec.{T, lit<}
use lib.Arith.{lt_of_le-ne}
use lib.IntN.{pos}
use lib.Ieee.{Float, nan, inf, fin, binary64, fits, add, le, of_bits, to_bits}
use lib.Ieee.Bits.{of_bits-to_bits}
use lib.Ieee.Fits.{add-fits}
use mir.Syntax.{w32}
use mir.Val.{to_z}
use mir.Facts.{to_z_pos}
use Rattle.rules.specs.declared.Staff.{Staff}
use Rattle.rules.specs.Staff.{product_fits, nearest_whole, with_height, without_height}
use Rattle.laws.specs.Floats.{alike, unsigned_zero, plus_nothing_is, plus_nothing}
use Rattle.laws.specs.Nearest.{half_up, half_up_more, half_up_less, magnitude, fits_alike, whole_alike}
use Rattle.staff.proofs.AtLeast0.{no_sign}
use Rattle.staff.proofs.Parts.{bare, exponent, significand, unit, limit, fits_below, no_fit_above, less_than_half, unit_pos, whole_fits, by_unit}

-- ---- A float whose bits may be taken for p's

pub record StandsFor (x p : Float) : Type 0 where
  pub fit : product_fits x ≡ product_fits p
  pub whole : nearest_whole x ≡ nearest_whole p
  pub held : T (fits binary64 x)
  pub no_sign : to_bits binary64 x ≤ 0x8000_0000_0000_0000

pub itself : {p : Float} → T (fits binary64 p) → T (le (of_bits binary64 0) p) → StandsFor p p
itself {p} f l = record { fit = refl; whole = refl; held = f; no_sign = no_sign p f l }

no_sign_of_0 : (p : Float) → magnitude (unsigned_zero p) ≡ magnitude p
no_sign_of_0 nan = refl
no_sign_of_0 (inf s) = refl
no_sign_of_0 (fin false m e) = refl
no_sign_of_0 (fin true zero e) = refl
no_sign_of_0 (fin true (suc m) e) = refl

pub with_nothing : {p : Float} → T (fits binary64 p) → T (le (of_bits binary64 0) p) → StandsFor (add binary64 p (of_bits binary64 0)) p
with_nothing {p} f l =
    let x = add binary64 p (of_bits binary64 0) in
    let same : magnitude x ≡ magnitude p = ap magnitude (plus_nothing_is p f) ∙ no_sign_of_0 p in
    let above : T (le (of_bits binary64 0) x) = subst T (sym ((plus_nothing f (alike p)).high (of_bits binary64 0))) l in
    record {
      fit = fits_alike x p same;
      whole = whole_alike x p same;
      held = add-fits binary64 p (of_bits binary64 0);
      no_sign = no_sign x (add-fits binary64 p (of_bits binary64 0)) above;
    }

-- ---- The answer

abbrev answer : Float → Staff
answer p = cond (product_fits p) (with_height (pos (nearest_whole p))) (without_height 3)

module _ (x p : Float) where
  abbrev b : ℕ
  b = to_bits binary64 x

  own : StandsFor x p → of_bits binary64 b ≡ x
  own g = of_bits-to_bits binary64 x g.held

  read_is : (g : StandsFor x p) → bare b ≤ limit → {h : ℕ} → nearest_whole (of_bits binary64 b) ≡ h → with_height (pos h) ≡ answer p
  read_is g l e =
      let fit : product_fits p ≡ true = sym g.fit ∙ ap product_fits (sym (own g)) ∙ fits_below b (bare b) refl l in
      rw fit (ap (λ (k : ℕ). with_height (pos k)) (sym e ∙ ap nearest_whole (own g) ∙ g.whole))

  small_is : exponent (bare b) < 1022 → StandsFor x p → with_height (pos 0) ≡ answer p
  small_is h g = read_is g (omega (arith, h)) (less_than_half b (bare b) refl h)

  -- bits that are 0 but for their sign, and those of less than a half
  pub zero_is : (n : ℕ) → b ≡ n → bare n ≡ 0 → StandsFor x p → with_height (pos 0) ≡ answer p
  zero_is n e z = small_is (subst (λ (u : ℕ). exponent u < 1022) (sym (ap bare e ∙ z)) (lit< tt))

  pub less_than_half_is : exponent b < 1022 → StandsFor x p → with_height (pos 0) ≡ answer p
  less_than_half_is h = small_is (omega (arith, h))

  module _ (l : b ≤ limit) (low : 1022 ≤ exponent b) where
    no_sign_there : bare b ≡ b
    no_sign_there = omega (arith, l)

    high : exponent b ≤ 1048
    high = omega (arith, l)

    as_height : StandsFor x p → {h : ℕ} → h < 2 ^ 31 → half_up (significand b) (unit b) ≡ h → with_height (to_z w32 h) ≡ answer p
    as_height g f e =
        ap with_height (to_z_pos w32 f)
        ∙ read_is g (omega (arith, l)) (by_unit b low high b no_sign_there ∙ e)

    pub more_is : unit b ≤ 2 * (significand b % unit b) → StandsFor x p → with_height (to_z w32 (significand b / unit b + 1)) ≡ answer p
    more_is h g = as_height g (omega (arith, whole_fits b low high)) (half_up_more (significand b) (unit b) (unit_pos b low) h)

    pub less_is : 2 * (significand b % unit b) < unit b → StandsFor x p → with_height (to_z w32 (significand b / unit b)) ≡ answer p
    less_is h g = as_height g (omega (arith, whole_fits b low high)) (half_up_less (significand b) (unit b) (unit_pos b low) h)

  pub refused_is : limit < b → (b ≡ 0x8000_0000_0000_0000 → ⊥) → (g : StandsFor x p) → without_height 3 ≡ answer p
  refused_is l n g =
      let is : bare b ≡ b = mod-eq_of_lt (lt_of_le-ne g.no_sign n) in
      rw (sym g.fit ∙ ap product_fits (sym (own g)) ∙ no_fit_above b b is l)
