-- A signed word that a call returned, that a list held, or that was cast to a narrower one, is the number that it stands for.
use Rattle.std.specs.Prelude.{◌≡◌, ℕ, ◌<◌, ◌^◌, ℤ, T, ltb}
use Rattle.std.proofs.Common.{◌∙◌, sym, subst, SFits, to_z, of_z, to_z-of_z}
use Rattle.std.specs.Int.Signed.{mag}
use Rattle.std.specs.Int.{w32, w64}
use Rattle.laws.specs.Sizes.{Within}
use Rattle.laws.specs.Exact.{sfits}

pub word_is : (z : ℤ) {x : ℤ} → mag z < 2 ^ 31 → z ≡ x → to_z w32 (of_z w32 z) ≡ x
word_is z h e = to_z-of_z {w = w32} (record { sfits = h }) ∙ e

-- a number of a small size, as a word
module _ {n : ℕ} (z : ℤ) {x : ℤ} (e : z ≡ x) (small : Within n x) (room : T (ltb n (2 ^ 31))) where
  pub small_is : to_z w32 (of_z w32 z) ≡ x
  small_is = to_z-of_z (subst (SFits w32) (sym e) (sfits w32 small room)) ∙ e

  pub small_within : Within n (to_z w32 (of_z w32 z))
  small_within = subst (Within n) (sym small_is) small

-- a signed 64-bit number of a small size, cast to 32 bits
module _ {n : ℕ} (z : ℤ) {x : ℤ} (ok : mag z < 2 ^ 63) (e : z ≡ x) (small : Within n x) (room : T (ltb n (2 ^ 31))) where
  long_is : to_z w64 (of_z w64 z) ≡ x
  long_is = to_z-of_z {w = w64} (record { sfits = ok }) ∙ e

  pub narrow_fits : SFits w32 (to_z w64 (of_z w64 z))
  narrow_fits = subst (SFits w32) (sym long_is) (sfits w32 small room)

  pub narrow_is : to_z w32 (of_z w32 (to_z w64 (of_z w64 z))) ≡ x
  narrow_is = to_z-of_z narrow_fits ∙ long_is
