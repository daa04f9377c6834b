-- Two values of one unit, the second at or above the first: so are their products, so are the nearest whole numbers, and if the second's product fits the first's does.
use Rattle.std.specs.Prelude.{ℕ, ◌*◌, ◌≤◌, ◌≡◌, refl, Bool, true, false, not, ◌&&◌, ◌||◌, T, ltb, eqb, ℤ, Float}
use Rattle.std.proofs.Common.{zero-le, sym, ap, ◌∙◌, le_trans, le_of_eq, le_of_lt, mul-pos, zero-mul, mul_right_comm, mul-le-mul_right, le_of_mul-le-mul_right, leb→le, ltb→lt, eqb→eq, le-leb, eqb-true}
use Rattle.std.proofs.Math.Nat.{mul-mul-mul_comm}
use Rattle.std.specs.Float.{nan, inf, fin, binary64}
use Rattle.std.specs.Float.Ieee.{up, down, unlike, round, mul, le, lt, eq}
use Rattle.std.specs.Float.Ieee.Fits.{down_pos}
use Rattle.std.specs.Float.Ieee.Order.{round_mono}
use Rattle.std.specs.Float.Ieee.Positive.{positive}
use Rattle.rules.specs.Staff.{value_fits, product_fits, nearest_whole}
use Rattle.laws.specs.Tests.{to_T, and_left, and_right}
use Rattle.laws.specs.Rounded.{of_both_lem, rounded}
use Rattle.laws.specs.Nearest.{half_up_mono, magnitude, fits_alike, whole_alike}

-- ---- What a sign does not change

by_magnitude : (s : Bool) (a c : ℕ) → magnitude (round binary64 s a c) ≡ magnitude (round binary64 false a c)
by_magnitude s = of_both_lem (λ x y. magnitude x ≡ magnitude y) s false refl (λ m e. refl) binary64

-- ---- Two floats without a sign

abbrev unsigned : Float → Bool
unsigned nan = false
unsigned (inf s) = not s
unsigned (fin s m e) = not s

lt_or_eq : (a b : ℕ) → T (ltb a b || (eqb a b && true)) → a ≤ b
lt_or_eq a b t = go (ltb a b) refl t
  where
    go : (x : Bool) → ltb a b ≡ x → T (x || (eqb a b && true)) → a ≤ b
    go true e u = le_of_lt (ltb→lt a b (to_T e))
    go false e u = le_of_eq (eqb→eq a b (and_left (eqb a b) true u))

pub record Below (p q : Float) : Type 0 where
  pub fits : product_fits p ≡ true
  pub whole : nearest_whole p ≤ nearest_whole q

in_order : (p q : Float) → T (unsigned p) → T (unsigned q) → T (le p q) → product_fits q ≡ true → Below p q
unfolding le lt eq product_fits nearest_whole
in_order nan q u v l f = absurd u
in_order (inf true) q u v l f = absurd u
in_order (inf false) nan u v l f = absurd v
in_order (inf false) (inf t) u v l f = absurd (to_T f)
in_order (inf false) (fin t n d) u v l f = absurd l
in_order (fin true m e) q u v l f = absurd u
in_order (fin false m e) nan u v l f = absurd v
in_order (fin false m e) (inf t) u v l f = absurd (to_T f)
in_order (fin false m e) (fin true n d) u v l f = absurd v
in_order (fin false m e) (fin false n d) u v l f =
    let cross : m * up e * down d ≤ n * up d * down e = lt_or_eq (m * up e * down d) (n * up d * down e) l in
    record {
      fits = le-leb (m * up e) (50000000 * down e)
          (le_of_mul-le-mul_right
          (le_trans cross (le_trans (mul-le-mul_right (down e) (leb→le (n * up d) (50000000 * down d) (to_T f))) (le_of_eq (mul_right_comm 50000000 (down d) (down e)))))
          (down_pos d));
      whole = half_up_mono (m * up e) (down e) (n * up d) (down d) (down_pos e) (down_pos d) cross;
    }

-- ---- Two values that fit, in order: their sizes are

sizes : (s : Bool) (m : ℕ) (e : ℤ) (t : Bool) (n : ℕ) (d : ℤ) → value_fits (fin s m e) ≡ true → value_fits (fin t n d) ≡ true → T (le (fin s m e) (fin t n d)) → m * up e * down d ≤ n * up d * down e
unfolding le lt eq value_fits
sizes true m e t n d f g l =
    le_trans (le_of_eq (ap (λ (k : ℕ). k * up e * down d) (eqb-true m 0 f) ∙ ap (λ (k : ℕ). k * down d) (zero-mul (up e)) ∙ zero-mul (down d))) zero-le
sizes false m e false n d f g l = lt_or_eq (m * up e * down d) (n * up d * down e) l
sizes false m e true n d f g l =
    le_trans (le_of_eq (eqb→eq (m * up e * down d) 0 (and_right (eqb (m * up e * down d) (n * up d * down e)) (eqb (m * up e * down d) 0) l))) zero-le

-- ---- and so are their products

pub products_in_order : (k : Float) → T (positive k) → (v w : Float) → T (le v w) → value_fits v ≡ true → value_fits w ≡ true → product_fits (mul binary64 w k) ≡ true → Below (mul binary64 v k) (mul binary64 w k)
unfolding mul value_fits
products_in_order nan P v w l f g h = absurd P
products_in_order (inf z) P v w l f g h = absurd P
products_in_order (fin true i j) P v w l f g h = absurd P
products_in_order (fin false i j) P nan w l f g h = absurd (to_T f)
products_in_order (fin false i j) P (inf s) w l f g h = absurd (to_T f)
products_in_order (fin false i j) P (fin s m e) nan l f g h = absurd (to_T g)
products_in_order (fin false i j) P (fin s m e) (inf t) l f g h = absurd (to_T g)
products_in_order (fin false i j) P (fin s m e) (fin t n d) l f g h =
    let a = m * up e * (i * up j) in
    let c = down e * down j in
    let b = n * up d * (i * up j) in
    let x = down d * down j in
    let cross : a * x ≤ b * c =
    le_trans (le_of_eq (mul-mul-mul_comm (m * up e) (i * up j) (down d) (down j)))
    (le_trans (mul-le-mul_right (i * up j * down j) (sizes s m e t n d f g l)) (le_of_eq (mul-mul-mul_comm (n * up d) (down e) (i * up j) (down j)))) in
    let below : Below (round binary64 false a c) (round binary64 false b x) =
    in_order (round binary64 false a c) (round binary64 false b x)
    (rounded (λ z. T (unsigned z)) binary64 false a c tt (λ _ _. tt))
    (rounded (λ z. T (unsigned z)) binary64 false b x tt (λ _ _. tt))
    (round_mono binary64 a c b x (mul-pos (down_pos e) (down_pos j)) (mul-pos (down_pos d) (down_pos j)) cross)
    (sym (fits_alike (round binary64 (unlike t false) b x) (round binary64 false b x) (by_magnitude (unlike t false) b x)) ∙ h) in
    record {
      fits = fits_alike (round binary64 (unlike s false) a c) (round binary64 false a c) (by_magnitude (unlike s false) a c) ∙ below.fits;
      whole =
          le_trans (le_of_eq (whole_alike (round binary64 (unlike s false) a c) (round binary64 false a c) (by_magnitude (unlike s false) a c)))
          (le_trans below.whole (le_of_eq (sym (whole_alike (round binary64 (unlike t false) b x) (round binary64 false b x) (by_magnitude (unlike t false) b x)))));
    }
