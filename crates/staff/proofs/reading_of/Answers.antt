-- `reading_of`: each kind as the reading that it is, and no other.
use mathlib.Core.Path.{◌≡◌, refl, sym, ap}
use Prim.Native.Nat.{ℕ, zero, suc}
use borrow.Author.Rules.{rules}
use lib.Ieee.{Float}
use Rattle.std.specs.Prelude.{Err}
use Rattle.rules.specs.declared.refusals.Refusal.TheVariants.{Value}
use Rattle.staff.specs.Heights.{reading_of}
use Rattle.staff.proofs.reading_of.Goals as goal

same_kind : (n k : ℕ) (v : Float) → k ≡ n → reading_of n v ≡ reading_of k v
same_kind n k v e = ap (λ j. reading_of j v) (sym e)

no_kind : (k : ℕ) (v : Float) → (k ≡ 0 → ⊥) → (k ≡ 1 → ⊥) → (k ≡ 2 → ⊥) → Err Value ≡ reading_of k v
unfolding reading_of
no_kind zero v a b c = absurd (a refl)
no_kind (suc zero) v a b c = absurd (b refl)
no_kind (suc (suc zero)) v a b c = absurd (c refl)
no_kind (suc (suc (suc k))) v a b c = refl

pub returns-in-0 : goal.returns-in-0
unfolding reading_of
returns-in-0 c = same_kind 0 c.args.kind _ (search rules)

pub returns-in-1 : goal.returns-in-1
unfolding reading_of
returns-in-1 c = same_kind 1 c.args.kind _ (search rules)

pub returns-in-2 : goal.returns-in-2
unfolding reading_of
returns-in-2 c = same_kind 2 c.args.kind _ (search rules)

pub returns-in_default : goal.returns-in_default
returns-in_default c = no_kind _ _ (search rules) (search rules) (search rules)
