-- Laws of the depth text of a height.
use mathlib.Core.Path.{◌≡◌, refl, sym, ap, ◌∙◌, subst}
use Prim.Native.Nat.{ℕ, ◌+◌, ◌/◌, ◌^◌, ◌<◌, ◌≤◌}
use native.Mathlib.Omega.{arith}
use lib.IntN.{ℤ, pos, negsuc, nat_abs}
use mir.Syntax.{w32}
use mir.Val.{SFits, to_z, of_z}
use mir.Facts.{to_z-of_z}
use mathlib.Core.List.{List, [], ◌++◌}
use lib.ListN.{length, drop}
use borrow.Author.Tests.{lt-ltb, le-ltb, le-leb, lt-leb, eq-eqb, ne_eqb}
use Rattle.rules.specs.Text.{decimal, height_text, depth_text, fitted, dry, under_one, cm}
use Rattle.std.specs.Int.{FitsUnsignedBits}
use Rattle.rules.specs.Calls.{text_part, text_scratch}
use Rattle.put.specs.Put.{Put}

pub text_dry : (h : ℕ) → h ≡ 0 → height_text h ≡ dry
unfolding height_text
text_dry h e = rw (eq-eqb _ _ e)

pub text_low : (h : ℕ) → (h ≡ 0 → ⊥) → h < 10000 → height_text h ≡ under_one
unfolding height_text
text_low h n l = rw (ne_eqb _ _ n, lt-ltb _ _ l)

pub text_cm : (h : ℕ) → 10000 ≤ h → h ≤ 50000000 → height_text h ≡ decimal ((h + 5000) / 10000) ++ cm
unfolding height_text
text_cm h l m = rw (ne_eqb h 0 (λ (e : h ≡ 0). omega arith), le-ltb _ _ l, le-leb _ _ m)

pub text_over : (h : ℕ) → 50000000 < h → height_text h ≡ []
unfolding height_text
text_over h m = rw (ne_eqb h 0 (λ (e : h ≡ 0). omega arith), le-ltb h 10000 (omega arith), lt-leb _ _ m)

-- what the calls' definitions say of a depth text that was put, and back
pub put_told : (h : ℤ) {r : ℕ} {old new : List ℕ} → Put (depth_text h) r old new → (r ≡ length (text_part h old)) × (new ≡ text_scratch h old)
unfolding text_part text_scratch
put_told h {r} {old} p = (p.long, p.bytes ∙ ap (λ (n : ℕ). fitted (depth_text h) (length old) ++ drop n old) p.long)

pub told_put : (h : ℤ) {r : ℕ} {old new : List ℕ} → r ≡ length (text_part h old) → new ≡ text_scratch h old → Put (depth_text h) r old new
unfolding text_part text_scratch
told_put h {r} {old} long bytes = record { long = long; bytes = bytes ∙ ap (λ (n : ℕ). fitted (depth_text h) (length old) ++ drop n old) (sym long) }

-- ---- a signed height: the code reads it as `to_z w32 (of_z w32 z)`, which is z

out_of_range : (z : ℤ) → SFits w32 z → (FitsUnsignedBits 32 z → ⊥) → depth_text z ≡ []
unfolding depth_text
out_of_range (pos n) f h = let b : n < 2147483648 = f.sfits in let l : n < 2 ^ 32 = omega arith in absurd (h l)
out_of_range (negsuc n) f h = refl

size_text : (z : ℤ) → FitsUnsignedBits 32 z → height_text (nat_abs z) ≡ depth_text z
unfolding depth_text
size_text (pos n) h = refl
size_text (negsuc n) h = absurd h

module _ (z : ℤ) (f : SFits w32 z) where
  -- a height that is handed on to a callee
  pub signed_same : depth_text (to_z w32 (of_z w32 z)) ≡ depth_text z
  signed_same = ap depth_text (to_z-of_z f)

  pub signed_none : (FitsUnsignedBits 32 (to_z w32 (of_z w32 z)) → ⊥) → depth_text z ≡ []
  signed_none h = out_of_range z f (subst (λ (x : ℤ). FitsUnsignedBits 32 x → ⊥) (to_z-of_z f) h)

  pub signed_text : FitsUnsignedBits 32 (to_z w32 (of_z w32 z)) → height_text (nat_abs (to_z w32 (of_z w32 z))) ≡ depth_text z
  signed_text h = size_text (to_z w32 (of_z w32 z)) h ∙ ap depth_text (to_z-of_z f)
