-- Laws of tests that the kit lacks: a test as a truth value and as a fact, and tests joined by `◌&&◌` and by `◌||◌`.
use Rattle.std.specs.Prelude.{◌≡◌, refl, Bool, true, false, cond, not, ◌&&◌, ◌||◌, ◌⊎◌, T}
use Rattle.std.proofs.Common.{sym, ap₂, ◌∙◌, subst, inl, inr}
use Rattle.std.proofs.Math.Bool.{and_comm}

pub both_ways : (a b : Bool) → (T a → T b) → (T b → T a) → a ≡ b
both_ways true true f g = refl
both_ways true false f g = absurd (f tt)
both_ways false true f g = absurd (g tt)
both_ways false false f g = refl

pub true_of : (b : Bool) → T b → b ≡ true
true_of true t = refl
true_of false t = absurd t

pub false_of : (b : Bool) → T (not b) → b ≡ false
false_of true t = absurd t
false_of false t = refl

pub cond_cong : {A : Type 0} (b : Bool) (x x' y : A) → (T b → x ≡ x') → cond b x y ≡ cond b x' y
cond_cong true x x' y h = h tt
cond_cong false x x' y h = refl

pub either_way : {A : Type 0} (b : Bool) (x : A) → cond b x x ≡ x
either_way true x = refl
either_way false x = refl

pub and_cross : {a b a' b' : Bool} → a' ≡ b → b' ≡ a → (a' && b') ≡ (a && b)
and_cross {a} {b} p q = ap₂ ◌&&◌ p q ∙ and_comm b a

pub and_both : (a b : Bool) → T a → T b → T (a && b)
and_both true b s t = t
and_both false b s t = s

pub and_left : (a b : Bool) → T (a && b) → T a
and_left true b t = tt
and_left false b t = t

pub and_right : (a b : Bool) → T (a && b) → T b
and_right true b t = t
and_right false b t = absurd t

pub or_cases : (a b : Bool) → T (a || b) → T a ⊎ T b
or_cases true b t = inl tt
or_cases false b t = inr t

pub or_left : (a b : Bool) → T a → T (a || b)
or_left true b t = tt
or_left false b t = absurd t

pub or_right : (a b : Bool) → T b → T (a || b)
or_right true b t = tt
or_right false b t = t

-- three and four tests, joined as `◌&&◌` joins them
pub record Three (a b c : Bool) : Type 0 where
  pub one : T a
  pub two : T b
  pub three : T c

pub three_of : (a b c : Bool) → T (a && b && c) → Three a b c
three_of true true true t = record { one = tt; two = tt; three = tt }
three_of true true false t = absurd t
three_of true false c t = absurd t
three_of false b c t = absurd t

pub record Four (a b c d : Bool) : Type 0 where
  pub one : T a
  pub two : T b
  pub three : T c
  pub four : T d

pub four_of : (a b c d : Bool) → T (a && b && c && d) → Four a b c d
four_of true true true true t = record { one = tt; two = tt; three = tt; four = tt }
four_of true true true false t = absurd t
four_of true true false d t = absurd t
four_of true false c d t = absurd t
four_of false b c d t = absurd t

pub of_four : (a b c d : Bool) → Four a b c d → T (a && b && c && d)
of_four a b c d f = and_both (a && b && c) d (and_both (a && b) c (and_both a b f.one f.two) f.three) f.four

pub to_T : {b : Bool} → b ≡ true → T b
to_T e = subst T (sym e) tt

-- two tests that are refused together, as the code puts them
pub one_fails : (a b : Bool) → (not a || not b) ≡ true → (a && b) ≡ false
one_fails true true e = sym e
one_fails true false e = refl
one_fails false b e = refl

pub both_hold : (a b : Bool) → (not a || not b) ≡ false → (a && b) ≡ true
both_hold true true e = refl
both_hold true false e = sym e
both_hold false b e = sym e
