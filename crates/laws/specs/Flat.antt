-- A test at every place of a rectangle is one test along the flat list that holds it.
use Rattle.std.specs.Prelude.{ℕ, zero, suc, ◌+◌, ◌*◌, ◌/◌, ◌%◌, ◌<◌, ◌≡◌, Bool, ◌&&◌, T}
use Rattle.std.proofs.Common.{sym, ap, ◌∙◌, div-add-mod', mod-lt, div-lt_iff_lt-mul, add-zero, add-suc}
use Rattle.std.proofs.Math.Bool.{and-true, and_assoc}
use Rattle.std.proofs.Math.Arith.{digits_lt}
use Rattle.rules.specs.Grid.{all, all_at}
use Rattle.laws.specs.Tests.{both_ways}
use Rattle.laws.specs.Grids.{all_at_lem, all_intro, all_at_at, all_at_intro, pos_columns}

-- row by row or along the list. With p = λ k. test (get_d s (base + k) d) it is about the rectangle that starts at `base` of the list s.
pub flat : (m n : ℕ) (p : ℕ → Bool) → all_at m n (λ i j. p (j * m + i)) ≡ all (n * m) p
flat m n p = both_ways (all_at m n (λ i j. p (j * m + i))) (all (n * m) p) to from
  where
    to : T (all_at m n (λ i j. p (j * m + i))) → T (all (n * m) p)
    to t =
        all_intro (n * m) p
        (λ k h.
        let o : 0 < m = pos_columns m n k h in
        rw div-add-mod' at (all_at_at m n (λ i j. p (j * m + i)) t (k % m) (k / m) (mod-lt k o) ((div-lt_iff_lt-mul o).1 h)))

    from : T (all (n * m) p) → T (all_at m n (λ i j. p (j * m + i)))
    from t = all_at_intro m n (λ i j. p (j * m + i)) (λ i j hi hj. all_at_lem (n * m) p t (j * m + i) (digits_lt hj hi))

-- two parts, one behind the other
pub all_add : (a b : ℕ) (p : ℕ → Bool) → all (a + b) p ≡ (all a p && all b (λ k. p (a + k)))
unfolding all
all_add a zero p = rw add-zero (sym (and-true (all a p)))
all_add a (suc b) p = rw add-suc (ap (λ (x : Bool). x && p (a + b)) (all_add a b p) ∙ and_assoc (all a p) (all b (λ k. p (a + k))) (p (a + b)))
