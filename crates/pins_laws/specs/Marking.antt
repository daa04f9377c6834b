-- A loop from the last word of a table to the first that marks each, and so tells a pin that is there twice.
use Rattle.std.specs.Prelude.{ℕ, ◌-◌, ◌≤◌, ◌<◌, ◌≡◌, Bool, true, false, ◌||◌, length, get_or, drop, replicate, eqb}
use Rattle.std.proofs.Math.Path.{sym, subst}
use Rattle.std.proofs.Common.{◌∙◌, ap, arith, length-set}
use Rattle.std.proofs.Math.Bool.{not}
use mathlib.Core.List.{List, ◌∷◌}
use Rattle.std.proofs.Math.Arith.{le-zero}
use Rattle.std.proofs.lemmas.List.{length-replicate}
use Rattle.std.proofs.Math.Seq.{drop-length}
use Rattle.std.proofs.Math.Dec.{T, not_T}
use Rattle.laws.specs.Tests.{to_T, true_of, false_of, and_both, and_left}
use Rattle.pins_rules.specs.Table.{crew_of, chamber_of, stands, words_fit, each_once}
use Rattle.pins_laws.specs.Words.{Fitting, none, one, crew_of_pin, chamber_of_pin, first_fits}
use Rattle.pins_laws.specs.Behind.{one_before, words_behind_lem, once_behind}
use Rattle.pins_laws.specs.Marks.{is_new, with_mark, Markable, MarkedBy, Marks, marks_none, marks_new, marks_more}

nothing : chamber_of 0 < 1000
unfolding chamber_of
nothing = omega arith

no_one : crew_of 0 ≤ 2
unfolding crew_of
no_one = omega arith

-- ---- the loop: behind the words from k on, none of which is there twice

pub record Marking (table marks : List ℕ) (k : ℕ) : Type 0 where
  pub upto : k ≤ length table
  pub so_far : T (each_once (drop k table))
  pub marks_are : Marks (drop k table) marks

module _ {table : List ℕ} where
  pub mark_none : Marking table (replicate 1000 0) (length table)
  unfolding each_once
  mark_none = record { upto = omega arith; so_far = subst (λ (l : List ℕ). T (each_once l)) (sym (drop-length table)) tt; marks_are = subst (λ (l : List ℕ). Marks l (replicate 1000 0)) (sym (drop-length table)) marks_none }

  pub mark_length : {marks left old : List ℕ} {k w : ℕ} {new : Bool} → Marking table marks k → MarkedBy w marks new left → old ≡ replicate 1000 0 → length left ≡ length old
  mark_length {marks} {w = w} f m e = ap length m.leaves ∙ length-set marks (chamber_of w) _ ∙ f.marks_are.sized ∙ sym (ap length e ∙ length-replicate {A = ℕ} 1000 0)

  pub mark_all : {marks : List ℕ} {k : ℕ} → Marking table marks k → k ≤ 0 → true ≡ each_once table
  mark_all {marks} {k} f h = sym (true_of (each_once table) (subst (λ (i : ℕ). T (each_once (drop i table))) (le-zero h) f.so_far))

  module _ (fit : T (words_fit table)) {marks : List ℕ} {k : ℕ} (f : Marking table marks k) (h : 0 < k) where
    behind : drop (k - 1) table ≡ get_or table (k - 1) 0 ∷ drop k table
    behind = one_before table h f.upto

    is_fitting : Fitting (get_or table (k - 1) 0)
    is_fitting = first_fits (get_or table (k - 1) 0) (drop k table) (subst (λ (l : List ℕ). T (words_fit l)) behind (words_behind_lem table (k - 1) fit))

    pub can_be_marked : Markable (get_or table (k - 1) 0) marks
    can_be_marked = go (get_or table (k - 1) 0) is_fitting
      where
        go : (w : ℕ) → Fitting w → Markable w marks
        go w none = record { inside = subst (λ (n : ℕ). chamber_of 0 < n) (sym f.marks_are.sized) nothing; small = no_one }
        go w (one {crew = crew} {chamber = chamber} c b) = record {
          inside = rw (chamber_of_pin crew {chamber = chamber} (omega arith)) (omega (arith, f.marks_are.sized));
          small = rw (crew_of_pin crew {chamber = chamber} (omega arith)) c.most;
        }

    new_is : is_new (get_or table (k - 1) 0) marks ≡ (eqb (get_or table (k - 1) 0) 0 || not (stands (get_or table (k - 1) 0) (drop k table)))
    new_is = marks_new f.marks_are is_fitting

    -- a word that is free, or a pin that was not marked
    pub mark_more : is_new (get_or table (k - 1) 0) marks ≡ true → Marking table (with_mark (get_or table (k - 1) 0) marks) (k - 1)
    unfolding each_once
    mark_more e = record {
      upto = (let u = f.upto in omega arith);
      so_far = subst (λ (l : List ℕ). T (each_once l)) (sym behind) (and_both (eqb (get_or table (k - 1) 0) 0 || not (stands (get_or table (k - 1) 0) (drop k table))) (each_once (drop k table)) (to_T (sym new_is ∙ e)) f.so_far);
      marks_are = subst (λ (l : List ℕ). Marks l (with_mark (get_or table (k - 1) 0) marks)) (sym behind) (marks_more f.marks_are is_fitting);
    }

    -- a pin that was marked
    pub mark_twice : is_new (get_or table (k - 1) 0) marks ≡ false → false ≡ each_once table
    unfolding each_once
    mark_twice e = sym (false_of (each_once table) (not_T (each_once table) (λ t.
        let again = subst (λ (l : List ℕ). T (each_once l)) behind (once_behind table (k - 1) t) in
        subst T (sym new_is ∙ e) (and_left (eqb (get_or table (k - 1) 0) 0 || not (stands (get_or table (k - 1) 0) (drop k table))) (each_once (drop k table)) again))))
