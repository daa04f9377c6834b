-- A list filled with another one from the front, one element a turn: what the loop keeps, and one law for each need.
use Rattle.std.specs.Prelude.{◌≡◌, refl, List, ◌++◌, ℕ, ◌+◌, ◌≤◌, ◌<◌, length, get_or, set, take, drop}
use Rattle.std.proofs.Common.{◌∙◌, ap, append-nil, le_refl, arith, length-set, drop_of_length-le, take_all}
use Rattle.laws.specs.Fronts.{copy_more}

module _ {A : Type 0} where
  -- `to` is `old` with its first i elements taken from `from`
  pub record Copied (from old to : List A) (i : ℕ) : Type 0 where
    pub most : i ≤ length from
    pub long : length to ≡ length from
    pub same : length to ≡ length old
    pub is : to ≡ take i from ++ drop i old

  module _ {from old : List A} where
    pub begin : length old ≡ length from → Copied from old old 0
    begin e = record { most = omega arith; long = e; same = refl; is = refl }

    pub more : {to : List A} {i : ℕ} {v : A} (d : A) → Copied from old to i → i < length from → v ≡ get_or from i d → Copied from old (set to i v) (i + 1)
    more {to} {i} {v} d h hi e =
        record {
          most = omega arith;
          long = length-set to i v ∙ h.long;
          same = length-set to i v ∙ h.same;
          is = rw e (copy_more {n = length from} d (record { most = h.most; is = h.is }) hi (le_refl (length from)) (omega arith)).is;
        }

    pub done : {to : List A} {i : ℕ} → Copied from old to i → length from ≤ i → to ≡ from
    done {to} {i} h k =
        let l : length old ≤ i = omega arith in
        h.is ∙ ap (λ (t : List A). t ++ drop i old) (take_all i from k) ∙ ap (λ (t : List A). from ++ t) (drop_of_length-le old l) ∙ append-nil from
